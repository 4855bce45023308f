-- A painted screen shows the rows that were painted.
use Rattle.std.proofs.Common.{ℕ, suc, zero, ◌≡◌, ◌+◌, ◌-◌, ◌<◌, ◌≤◌, min, nat_lt, Bool, true, false, List, [], ◌∷◌, ◌++◌, length, map, set, replicate, get_or, if◌then◌else◌, refl, ap, subst, sym, ◌∙◌, append_assoc, arith}
use Rattle.std.proofs.lemmas.List.{get_or_at, get_or-append-add, length_push, set_at}
use Rattle.esc_screen.specs.Cells.{blank, blank_row, cut_row, is_rest, cells_with, put_all}
use Rattle.esc_screen.specs.Grids.{Grid, Size, first_grid, in_row, grid_at, with_cursor}
use Rattle.esc_screen.specs.Motions.{row_by}
use Rattle.esc_screen.specs.Printing.{is_direct, grid_past}
use Rattle.esc_screen.specs.Steps.{grid_by, grid_from}
use Rattle.esc_screen.specs.Paints.{AllFit, PaintsPlain, paint_from, plain_cell, row_of}
use Rattle.esc_screen.specs.declared.cell.Cell.{Cell}
use Rattle.esc_screen.specs.declared.cursor.Cursor.{Cursor}
use Rattle.esc_screen.specs.declared.motion.Motion.TheVariants as motion
use Rattle.esc_screen.specs.declared.step.Step.TheVariants as step
use Rattle.esc_screen.proofs.Printing.RunsOfCharacters.{in_chunks, run_is}
use Rattle.esc_screen.proofs.Whole.RunWithoutWide.{cut_same}

any_blank : (j : ℕ) → get_or (replicate j (blank 0)) 0 (blank 0) ≡ blank 0
any_blank zero = refl
any_blank (suc j) = refl

put_first : (n j c : ℕ) (p : List Cell) → length p ≡ n
    → cells_with n 0 c (p ++ replicate (suc j) (blank 0))
    ≡ p ++ plain_cell c ∷ replicate j (blank 0)
put_first n j c p e =
    let b = blank 0 in
    let xs = p ++ b ∷ replicate j b in
    let here : is_rest (get_or xs n b) ≡ false = ap is_rest (get_or_at p b (replicate j b) b n e) in
    let next : is_rest (get_or xs (n + 1) b) ≡ false =
    ap is_rest (ap (λ k. get_or xs (k + 1) b) (sym e) ∙ get_or-append-add p (b ∷ replicate j b) 1 b
    ∙ any_blank j) in
    ap (λ z. set (cut_row (n + 1) z) n (plain_cell c)) (cut_same n xs here)
    ∙ ap (λ z. set z n (plain_cell c)) (cut_same (n + 1) xs next)
    ∙ set_at p b (replicate j b) (plain_cell c) n e

pub put_blank : (n k : ℕ) (cs : List ℕ) (p : List Cell) → length p ≡ n → length cs ≤ k
    → put_all n 0 cs (p ++ replicate k (blank 0))
    ≡ p ++ (map plain_cell cs ++ replicate (k - length cs) (blank 0))
put_blank n k [] p e h = ap (λ z. p ++ replicate z (blank 0)) all
  where
    all : k ≡ k - 0
    all = omega arith
put_blank n zero (c ∷ cs) p e h = absurd (omega (arith, h))
put_blank n (suc j) (c ∷ cs) p e h =
    let b = blank 0 in
    let q = p ++ plain_cell c ∷ [] in
    let len : length q ≡ n + 1 = length_push p (plain_cell c) ∙ ap (λ k. k + 1) e in
    let less : length cs ≤ j = omega (arith, h) in
    let left : j - length cs ≡ suc j - length (c ∷ cs) = omega arith in
    ap (put_all (n + 1) 0 cs) (put_first n j c p e
    ∙ sym (append_assoc p (plain_cell c ∷ []) (replicate j b)))
    ∙ put_blank (n + 1) j cs q len less
    ∙ append_assoc p (plain_cell c ∷ []) (map plain_cell cs ++ replicate (j - length cs) b)
    ∙ ap (λ z. p ++ (plain_cell c ∷ (map plain_cell cs ++ replicate z b))) left

-- a screen that paints: characters look as at first, and are shown as they are
record IsPlain (g : Grid) : Type 0 where
  pub look : g.cursor.look ≡ 0
  pub direct : is_direct g ≡ true
  pub origin : g.cursor.origin ≡ false

plain_if : (t : Bool) (g : Grid) (c d : Cursor) → IsPlain (with_cursor c g)
    → IsPlain (with_cursor d g) → IsPlain (with_cursor (if t then c else d) g)
plain_if true g c d h k = h
plain_if false g c d h k = k

plain_passed : (s : Size) (n : ℕ) (g : Grid) → IsPlain g → IsPlain (grid_past s n g)
plain_passed s n g h = plain_if (nat_lt (g.cursor.column + n) s.columns) g _ _
    (record {
      look = h.look;
      direct = h.direct;
      origin = h.origin;
    })
    (record {
      look = h.look;
      direct = h.direct;
      origin = h.origin;
    })

plain_moved : (i n : ℕ) (g : Grid) → IsPlain g → IsPlain (grid_at i n g)
plain_moved i n g h = record {
  look = h.look;
  direct = h.direct;
  origin = h.origin;
}

positioned_first : (s : Size) (i : ℕ) (g : Grid) → IsPlain g → i < s.rows
    → grid_by s g (step.Move (motion.Position i 0)) ≡ grid_at i 0 g
positioned_first s i g h within =
    let to : row_by s i g ≡ i =
    ap (λ b. if b then min (g.top + i) (g.bottom - 1) else min i (s.rows - 1)) h.origin
    ∙ omega (arith, within) in
    let start : min 0 (s.columns - 1) ≡ 0 = omega arith in
    ap (λ r. grid_at r (min 0 (s.columns - 1)) g) to ∙ ap (λ n. grid_at i n g) start

-- one row
row_painted : (s : Size) (i : ℕ) (cs : List ℕ) (g : Grid) (above : List (List Cell))
    (below : List (List Cell)) → IsPlain g → length above ≡ i → i < s.rows
    → length cs ≤ s.columns → g.rows ≡ above ++ blank_row 0 s.columns ∷ below
    → ((grid_from s g (step.Move (motion.Position i 0) ∷ map step.Print cs)).rows
    ≡ above ++ row_of s cs ∷ below)
    × IsPlain (grid_from s g (step.Move (motion.Position i 0) ∷ map step.Print cs))
row_painted s i [] g above below pen e within fits rows =
    let first = positioned_first s i g pen within in (
      ap (λ z. z.rows) first ∙ rows ∙ ap (λ z. above ++ blank_row 0 z ∷ below) all,
      subst IsPlain (sym first) (plain_moved i 0 g pen),
    )
  where
    all : s.columns ≡ s.columns - 0
    all = omega arith
row_painted s i (c ∷ cs) g above below pen e within fits rows =
    let b = blank_row 0 s.columns in
    let h = grid_at i 0 g in
    let first = positioned_first s i g pen within in
    let all = run_is s (c ∷ cs) h refl pen.direct (omega arith) (omega (arith, fits)) in
    let cells_with = put_all 0 g.cursor.look (c ∷ cs) in
    let is : (in_row cells_with h).rows ≡ above ++ row_of s (c ∷ cs) ∷ below =
    ap (λ z. set z i (cells_with (get_or z i []))) rows
    ∙ ap (λ z. set (above ++ b ∷ below) i (cells_with z)) (get_or_at above b below [] i e)
    ∙ ap (λ l. set (above ++ b ∷ below) i (put_all 0 l (c ∷ cs) b)) pen.look
    ∙ ap (set (above ++ b ∷ below) i) (put_blank 0 s.columns (c ∷ cs) [] refl fits)
    ∙ set_at above b below (row_of s (c ∷ cs)) i e in
    let runs = ap (λ z. grid_from s z (map step.Print (c ∷ cs))) first ∙ all in
    let row : IsPlain (in_row cells_with h) = record {
      look = pen.look;
      direct = pen.direct;
      origin = pen.origin;
    } in (
      ap (λ z. z.rows) runs ∙ is,
      subst IsPlain (sym runs) (plain_passed s (length (c ∷ cs)) (in_row cells_with h) row),
    )

all_painted : (s : Size) (i : ℕ) (css : List (List ℕ)) (g : Grid) (above : List (List Cell))
    → IsPlain g → length above ≡ i → i + length css ≡ s.rows → AllFit s css
    → g.rows ≡ above ++ replicate (length css) (blank_row 0 s.columns)
    → (grid_from s g (paint_from i css)).rows ≡ above ++ map (row_of s) css
all_painted s i [] g above pen e all fits rows = rows
all_painted s i (cs ∷ css) g above pen e all fits rows =
    let xs = step.Move (motion.Position i 0) ∷ map step.Print cs in
    let ys = paint_from (i + 1) css in
    let h = grid_from s g xs in
    let row = row_of s cs in
    let below = replicate (length css) (blank_row 0 s.columns) in
    let r = row_painted s i cs g above below pen e (omega (arith, all)) fits.0 rows in
    let more : i + 1 + length css ≡ s.rows = omega (arith, all) in
    ap (λ z. z.rows) (in_chunks s g xs ys)
    ∙ all_painted s (i + 1) css h (above ++ row ∷ []) r.1
    (length_push above row ∙ ap (λ k. k + 1) e) more fits.1
    (r.0 ∙ sym (append_assoc above (row ∷ []) below))
    ∙ append_assoc above (row ∷ []) (map (row_of s) css)

pub paints_plain : PaintsPlain
paints_plain s css all fits =
    let pen : IsPlain (first_grid s) = record {
      look = refl;
      direct = refl;
      origin = refl;
    } in
    all_painted s 0 css (first_grid s) [] pen refl (omega (arith, all)) fits
    (ap (λ n. replicate n (blank_row 0 s.columns)) (sym all))
