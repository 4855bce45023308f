-- Runs of characters, and chunks of a stream.
use Rattle.std.proofs.Common.{ℕ, ◌≡◌, ◌+◌, ◌-◌, ◌<◌, ◌≤◌, true, false, inl, inr, Bool, not, ◌&&◌, List, [], ◌∷◌, ◌++◌, length, map, set, take, drop, get_or, nat_lt, if◌then◌else◌, refl, ap, sym, ◌∙◌, arith}
use Rattle.std.proofs.Math.Seq.{set_out}
use Rattle.std.proofs.lemmas.Bool.{cases_Bool, true≢false}
use Rattle.std.proofs.lemmas.Bool.Decides.{nat_tests}
use Rattle.std.proofs.lemmas.List.{get_or-set_same, map-append, set-set, take-append-drop}
use Rattle.esc_screen.specs.Cells.{inserted_cells, cells_with, put_all}
use Rattle.esc_screen.specs.Cursors.{draws, landed_cursor, line_drawing}
use Rattle.esc_screen.specs.Grids.{Grid, Size, in_row, next_line, settled_grid, with_cursor}
use Rattle.esc_screen.specs.Printing.{is_direct, row_gone_on, narrow_printed, narrow_put, grid_with_room, grid_past, grid_with_character, wrapped_grid, wrapped_past}
use Rattle.esc_screen.specs.Steps.{grid_by, grid_from}
use Rattle.esc_screen.specs.declared.cell.Cell.{Cell}
use Rattle.esc_screen.specs.declared.step.Step.{Step}
use Rattle.esc_screen.specs.declared.step.Step.TheVariants as step

-- steps in two chunks
pub in_chunks : (s : Size) (g : Grid) (xs ys : List Step)
    → grid_from s g (xs ++ ys) ≡ grid_from s (grid_from s g xs) ys
in_chunks s g [] ys = refl
in_chunks s g (x ∷ xs) ys = in_chunks s (grid_by s g x) xs ys

-- a row that is changed twice
pub row_twice : (ls : List (List Cell)) (r : ℕ) (f h : List Cell → List Cell)
    → set (set ls r (f (get_or ls r []))) r (h (get_or (set ls r (f (get_or ls r []))) r []))
    ≡ set ls r (h (f (get_or ls r [])))
row_twice ls r f h =
    let x = f (get_or ls r []) in
    elim (cases_Bool (nat_lt r (length ls))) [
      | inl held ↦
          let within : r < length ls = grind (arith, nat_tests) in
          set-set ls r x (h (get_or (set ls r x) r []))
          ∙ ap (λ y. set ls r (h y)) (get_or-set_same ls r x [] within)
      | inr failed ↦
          let out : length ls ≤ r = grind (arith, nat_tests) in
          set-set ls r x (h (get_or (set ls r x) r []))
          ∙ set_out ls r _ out ∙ sym (set_out ls r (h x) out)
    ]

-- once a wrap is done, none is pending
pub none_pending : (s : Size) (g : Grid) → (wrapped_grid s g).cursor.pending ≡ false
none_pending s g =
    elim (cases_Bool g.cursor.pending) [
      | inl held ↦ ap (λ b. (if b then wrapped_past s g else g).cursor.pending) held
          ∙ either (g.modes.wraps)
      | inr failed ↦ ap (λ b. (if b then wrapped_past s g else g).cursor.pending) failed ∙ failed
    ]
  where
    either : (b : Bool) → (if b then next_line s (row_gone_on g)
        else settled_grid g).cursor.pending ≡ false
    either true = refl
    either false = refl

pub not_wrapped : (s : Size) (g : Grid) → g.cursor.pending ≡ false → wrapped_grid s g ≡ g
not_wrapped s g e = ap (λ b. if b then wrapped_past s g else g) e

-- a wrap before characters changes nothing, as the first of them does it
pub wrapped_first : (s : Size) (g : Grid) (cs : List ℕ) → 0 < length cs
    → grid_from s (wrapped_grid s g) (map step.Print cs) ≡ grid_from s g (map step.Print cs)
wrapped_first s g [] some = absurd (omega (arith, some))
wrapped_first s g (c ∷ cs) some =
    ap (λ z. grid_from s (narrow_put s c z) (map step.Print cs))
    (not_wrapped s (wrapped_grid s g) (none_pending s g))

direct_parts : (a b : Bool) → not a && not b ≡ true → (a ≡ false) × (b ≡ false)
direct_parts false false h = (refl, refl)
direct_parts false true h = absurd (true≢false (sym h))
direct_parts true b h = absurd (true≢false (sym h))

-- a character that is shown as it is, where nothing makes room for it
narrow_direct : (s : Size) (c : ℕ) (g : Grid) → is_direct g ≡ true
    → narrow_put s c g ≡ grid_with_character s c g
narrow_direct s c g h =
    let k = direct_parts g.modes.inserts (draws g.cursor) h in
    ap (λ b. grid_with_character s (if b then line_drawing c else c) (grid_with_room s 1 g)) k.1
    ∙ ap (λ b. grid_with_character s c (if b
    then in_row (inserted_cells g.cursor.erased 1 g.cursor.column s.columns) g
    else g)) k.0

pub landed_in : (s : Size) (b : Bool) (n : ℕ) (g : Grid) → n < s.columns
    → landed_cursor s.columns b n g.cursor ≡ record (g.cursor) { column = n }
landed_in s b n g within = rw (tests n s.columns within) refl
  where
    tests : (a b : ℕ) → a < b → nat_lt a b ≡ true
    tests a b h = grind (arith, nat_tests)

-- characters that the row has columns for, at once
run_from : (s : Size) (c : ℕ) (cs : List ℕ) (g : Grid) → g.cursor.pending ≡ false
    → is_direct g ≡ true → g.cursor.column + length (c ∷ cs) ≤ s.columns
    → grid_from s g (map step.Print (c ∷ cs))
    ≡ grid_past s (length (c ∷ cs)) (in_row (put_all g.cursor.column g.cursor.look (c ∷ cs)) g)
run_from s c [] g ready direct fits =
    ap (narrow_put s c) (not_wrapped s g ready) ∙ narrow_direct s c g direct
run_from s c (d ∷ ds) g ready direct fits =
    let cs = d ∷ ds in
    let n = g.cursor.column in
    let next : n + 1 < s.columns = omega (arith, fits) in
    let h = with_cursor (record (g.cursor) { column = n + 1 })
    (in_row (cells_with n g.cursor.look c) g) in
    let first : narrow_printed s c g ≡ h =
    ap (narrow_put s c) (not_wrapped s g ready)
    ∙ narrow_direct s c g direct
    ∙ ap (λ z. with_cursor z (in_row (cells_with n g.cursor.look c) g))
    (landed_in s g.modes.wraps (n + 1) g next) in
    let one : n + 1 + length cs ≡ n + length (c ∷ cs) = omega arith in
    let less : n + 1 + length cs ≤ s.columns = omega (arith, fits, one) in
    ap (λ z. grid_from s z (map step.Print cs)) first
    ∙ run_from s d ds h ready direct less
    ∙ ap (λ rs. grid_past s (length cs) (record h { rows = rs }))
    (row_twice g.rows g.cursor.row (cells_with n g.cursor.look c)
    (put_all (n + 1) g.cursor.look cs))
    ∙ ap (λ m. with_cursor (landed_cursor s.columns g.modes.wraps m g.cursor)
    (in_row (put_all n g.cursor.look (c ∷ cs)) g)) one

pub run_is : (s : Size) (cs : List ℕ) (g : Grid) → g.cursor.pending ≡ false
    → is_direct g ≡ true → 0 < length cs → g.cursor.column + length cs ≤ s.columns
    → grid_from s g (map step.Print cs)
    ≡ grid_past s (length cs) (in_row (put_all g.cursor.column g.cursor.look cs) g)
run_is s [] g ready direct some fits = absurd (omega (arith, some))
run_is s (c ∷ cs) g ready direct some fits = run_from s c cs g ready direct fits

-- the first character
pub first_is : (s : Size) (g : Grid) (text : List ℕ) (d : ℕ) → 0 < length text
    → narrow_put s (get_or text 0 d) (wrapped_grid s g)
    ≡ grid_from s g (map step.Print (take 1 text))
first_is s g [] d some = absurd (omega (arith, some))
first_is s g (c ∷ cs) d some = refl

-- characters in two chunks
pub run_split : (s : Size) (g : Grid) (n : ℕ) (text : List ℕ)
    → grid_from s (grid_from s g (map step.Print (take n text))) (map step.Print (drop n text))
    ≡ grid_from s g (map step.Print text)
run_split s g n text =
    sym (in_chunks s g (map step.Print (take n text)) (map step.Print (drop n text)))
    ∙ ap (grid_from s g) (sym (map-append step.Print (take n text) (drop n text))
    ∙ ap (map step.Print) (take-append-drop n text))
