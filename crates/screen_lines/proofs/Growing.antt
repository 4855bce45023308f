-- The text of rows only grows.
use Rattle.std.proofs.Common.{◌≡◌, ℕ, suc, zero, ◌+◌, ◌<◌, ◌≤◌, ◌==◌, min, inl, inr, Bool, true, false, not, ◌&&◌, ◌||◌, if◌then◌else◌, List, [], ◌∷◌, ◌++◌, length, drop, take, get_or, replicate, Some, refl, ap, sym, ◌∙◌, append_assoc, append-nil, arith}
use Rattle.std.specs.List.{FoldsTo}
use Rattle.std.proofs.lemmas.Bool.{and_parts, cases_lt}
use Rattle.std.proofs.lemmas.List.{drop_all, drop_more, get_or_past, replicate_more, take_more}
use Rattle.esc_sgr.specs.Sgr.{same_look}
use Rattle.esc_style.specs.Looks.{plain_look}
use Rattle.esc_screen.specs.Cells.{blank, is_joined, is_rest}
use Rattle.esc_screen.specs.Used.{IsUnusedFrom}
use Rattle.esc_screen.specs.declared.cell.Cell.{Cell}
use Rattle.esc_terminal.specs.Links.{Known, known_look}
use Rattle.esc_terminal.specs.Scrolled.{Row}
use Rattle.screen_lines.specs.Parts.{Out, Part, emptied_out, out_by, out_from, part_text}
use Rattle.screen_lines.specs.Parts.Part.{Character}
use Rattle.screen_lines.specs.Rows.{cell_parts, cells_parts, going_by, is_blank_content, is_hidden, is_unwritten, out_by_row, out_by_rows, plain_parts, row_parts, seen_parts}
use Rattle.screen_lines.specs.Written.{WritesRow, out_of}
use Rattle.screen_lines.specs.declared.going.Going.{Going}
use Rattle.screen_lines.specs.declared.lines.Lines.{Lines}

-- parts in two parts
pub from_more : (o : Out) (ps qs : List Part)
    → out_from o (ps ++ qs) ≡ out_from (out_from o ps) qs
from_more o [] qs = refl
from_more o (p ∷ ps) qs = from_more (out_by o p) ps qs

-- a space more
pub spaces_more : (o : Out) (n : ℕ)
    → out_by (out_from o (replicate n (Character 0x20))) (Character 0x20)
    ≡ out_from o (replicate (n + 1) (Character 0x20))
spaces_more o n =
    sym (from_more o (replicate n (Character 0x20)) (Character 0x20 ∷ []))
    ∙ ap (out_from o) (replicate_more n (Character 0x20))

pub few_blanks : (k : Known) (w : Going) (x : Cell) → (going_by k w x).blanks ≤ w.blanks + 1
few_blanks k w x = by (is_hidden k x) (is_rest x)
  where
    by : (s t : Bool) → (if s then record w { blanks = w.blanks + 1 }
        else if t then w
        else record { held = Some x.look; blanks = 0 }).blanks ≤ w.blanks + 1
    by true t = omega arith
    by false true = omega arith
    by false false = omega arith

-- a cell more, from this output and place to those
module _ (k : Known) (o p q : Out) (w v : Going) (i : ℕ) (xs : List Cell) (d : Cell) where
  abbrev pub next : Cell
  next = get_or xs i d

  abbrev pub rest : List Cell
  rest = drop (i + 1) xs

  pub cells_more : i < length xs → q ≡ out_from o (cell_parts k w next) → v ≡ going_by k w next
      → out_from q (cells_parts k v rest) ≡ out_from o (cells_parts k w (drop i xs))
  cells_more less e f =
      ap (λ z. out_from z (cells_parts k v rest)) e
      ∙ ap (λ z. out_from (out_from o (cell_parts k w next)) (cells_parts k z rest)) f
      ∙ sym (from_more o (cell_parts k w next) (cells_parts k (going_by k w next) rest))
      ∙ ap (λ z. out_from o (cells_parts k w z)) (sym (drop_more xs i d less))

  pub cell_added : i < length xs → w.blanks ≤ i → q ≡ out_from o (cell_parts k w next)
      → v ≡ going_by k w next → out_from o (cells_parts k w (drop i xs)) ≡ p
      → (v.blanks ≤ i + 1) × (out_from q (cells_parts k v rest) ≡ p)
  cell_added less few e f all = (
    omega (arith, few_blanks k w next, ap (λ z. z.blanks) f),
    cells_more less e f ∙ all,
  )

pub cells_end : (k : Known) (o : Out) (w : Going) (i : ℕ) (xs : List Cell) → length xs ≤ i
    → out_from o (plain_parts k w.held) ≡ out_from o (cells_parts k w (drop i xs))
cells_end k o w i xs all =
    ap (λ z. out_from o (cells_parts k w z)) (sym (drop_all i xs all))

-- cells that are not used add nothing
no_parts : (k : Known) (w : Going) (xs : List Cell) → IsUnusedFrom 0 xs
    → plain_parts k w.held ≡ cells_parts k w xs
no_parts k w [] h = refl
no_parts k w (x ∷ xs) h =
    no_parts k (record w { blanks = w.blanks + 1 }) xs (λ i at. h (suc i) (omega arith))
    ∙ ap (λ y. cell_parts k w y ++ cells_parts k (going_by k w y) xs) (sym (h 0 (omega arith)))

used_parts : (k : Known) (w : Going) (n : ℕ) (xs : List Cell) → IsUnusedFrom n xs
    → cells_parts k w (take n xs) ≡ cells_parts k w xs
used_parts k w zero xs h = no_parts k w xs h
used_parts k w (suc n) [] h = refl
used_parts k w (suc n) (x ∷ xs) h =
    ap (λ ps. cell_parts k w x ++ ps)
    (used_parts k (going_by k w x) n xs (λ i at. h (suc i) (omega (arith, at))))

pub all_used : (n : ℕ) (xs : List Cell) → length xs ≤ n → IsUnusedFrom n xs
all_used n xs all i at = get_or_past xs i (blank 0) (omega (arith, all, at))

used_least : (n : ℕ) (xs : List Cell) → IsUnusedFrom n xs
    → IsUnusedFrom (min n (length xs)) xs
used_least n xs h =
    elim (cases_lt (length xs) n) [
      | inl less ↦ λ i at. get_or_past xs i (blank 0) (omega (arith, less, at))
      | inr more ↦ λ i at. h i (omega (arith, more, at))
    ]

pub used_written : (k : Known) (w : Going) (n m : ℕ) (xs : List Cell) → IsUnusedFrom n xs
    → m ≡ min n (length xs) → cells_parts k w (take m xs) ≡ cells_parts k w xs
used_written k w n m xs h is =
    ap (λ j. cells_parts k w (take j xs)) is
    ∙ used_parts k w (min n (length xs)) xs (used_least n xs h)

-- a cell that is as at first adds nothing at the end
unwritten_hidden : (k : Known) (x : Cell) → is_unwritten x ≡ true → is_hidden k x ≡ true
unwritten_hidden k x h =
    let q = and_parts (is_blank_content x.content) (x.look == 0) h in
    ap (λ b. b && ((x.look == 0) || same_look plain_look (known_look x.look k))) q.0
    ∙ ap (λ b. b || same_look plain_look (known_look x.look k)) q.1

unwritten_end : (k : Known) (w : Going) (xs : List Cell) (x : Cell) → is_unwritten x ≡ true
    → cells_parts k w xs ≡ cells_parts k w (xs ++ x ∷ [])
unwritten_end k w [] x h =
    sym (ap (λ (b : Bool). (if b then [] else if is_rest x then [] else seen_parts k w x)
    ++ plain_parts k (if b then record w { blanks = w.blanks + 1 }
    else if is_rest x then w
    else record { held = Some x.look; blanks = 0 }).held) (unwritten_hidden k x h))
unwritten_end k w (y ∷ ys) x h =
    ap (λ ps. cell_parts k w y ++ ps) (unwritten_end k (going_by k w y) ys x h)

pub unwritten_less : (k : Known) (w : Going) (xs : List Cell) (n m : ℕ) (d : Cell)
    → n ≡ m + 1 → m < length xs → is_unwritten (get_or xs m d) ≡ true
    → cells_parts k w (take m xs) ≡ cells_parts k w (take n xs)
unwritten_less k w xs n m d is less h =
    unwritten_end k w (take m xs) (get_or xs m d) h
    ∙ ap (cells_parts k w) (sym (take_more xs m d less))
    ∙ ap (λ i. cells_parts k w (take i xs)) (sym is)

-- rows in two parts
pub rows_more : (o : Out) (rs ss : List Row)
    → out_by_rows o (rs ++ ss) ≡ out_by_rows (out_by_rows o rs) ss
rows_more o [] ss = refl
rows_more o (r ∷ rs) ss = rows_more (out_by_row o r) rs ss

-- rows that were taken one after another
pub rows_taken : {A : Type 0} (p : Lines A) (rs : List Row) (q : Lines A)
    → FoldsTo WritesRow p rs q → out_of q ≡ out_by_rows (out_of p) rs
rows_taken p [] q e = ap out_of (sym e)
rows_taken p (r ∷ rs) q (j, h, rest) =
    rows_taken j rs q rest ∙ ap (λ o. out_by_rows o rs) h

-- ---- the text before changes nothing in what comes

abbrev pub adds : List ℕ → Out → Out
adds t o = record o { text = t ++ o.text }

by_adds : (t : List ℕ) (o : Out) (p : Part) → out_by (adds t o) p ≡ adds t (out_by o p)
by_adds t o p =
    ap (λ x. record (out_by o p) { text = x })
    (append_assoc t o.text (part_text o.characters o.ink p))

from_adds : (t : List ℕ) (o : Out) (ps : List Part)
    → out_from (adds t o) ps ≡ adds t (out_from o ps)
from_adds t o [] = refl
from_adds t o (p ∷ ps) =
    ap (λ z. out_from z ps) (by_adds t o p) ∙ from_adds t (out_by o p) ps

row_adds : (t : List ℕ) (o : Out) (r : Row) → out_by_row (adds t o) r ≡ adds t (out_by_row o r)
row_adds t o r =
    ap {A = Out} (λ z. record z { gap = not (is_joined r.0) }) (from_adds t o (row_parts o.gap r))

pub rows_add : (t : List ℕ) (o : Out) (rs : List Row)
    → out_by_rows (adds t o) rs ≡ adds t (out_by_rows o rs)
rows_add t o [] = refl
rows_add t o (r ∷ rs) =
    ap (λ z. out_by_rows z rs) (row_adds t o r) ∙ rows_add t (out_by_row o r) rs

whole : (o : Out) → adds o.text (emptied_out o) ≡ o
whole o = ap (λ x. record o { text = x }) (append-nil o.text)

rows_after : (o : Out) (rs : List Row)
    → out_by_rows o rs ≡ adds o.text (out_by_rows (emptied_out o) rs)
rows_after o rs =
    ap (λ z. out_by_rows z rs) (sym (whole o)) ∙ rows_add o.text (emptied_out o) rs

-- the text of rows more is added to that which is there
pub text_after : (o : Out) (rs : List Row)
    → (out_by_rows o rs).text ≡ o.text ++ (out_by_rows (emptied_out o) rs).text
text_after o rs = ap (λ z. z.text) (rows_after o rs)

pub emptied_after : (o : Out) (rs : List Row)
    → emptied_out (out_by_rows o rs) ≡ emptied_out (out_by_rows (emptied_out o) rs)
emptied_after o rs = ap emptied_out (rows_after o rs)
