-- A row is said to go on once.
use Rattle.std.proofs.Common.{ℕ, suc, zero, ◌≡◌, ◌+◌, nat_lt, Bool, true, false, ◌&&◌, List, [], ◌∷◌, set, get_or, if◌then◌else◌, refl, ap, sym, ◌∙◌}
use Rattle.std.proofs.lemmas.Bool.{and_parts}
use Rattle.esc_screen.specs.Cells.{joined_at}
use Rattle.esc_screen.specs.Grids.{Grid, Size, next_line, settled_grid, with_rows}
use Rattle.esc_screen.specs.Printing.{has_room, row_gone_on, narrow_put, grid_with_room, printed_wide, wide_printed, wrapped_grid}
use Rattle.esc_screen.specs.Scrolled.{JoinsOnce, gone_by, gone_wide, gone_wrapped, joined_by, joined_narrow}
use Rattle.esc_screen.specs.Steps.{grid_by}
use Rattle.esc_screen.specs.declared.cell.Cell.{Cell}
use Rattle.esc_screen.specs.declared.step.Step.{Step}
use Rattle.esc_screen.specs.declared.step.Step.TheVariants as step
use Rattle.esc_screen.proofs.Printing.RunsOfCharacters.{row_twice}

joined_again : (n : ℕ) (xs : List Cell) → joined_at n (joined_at n xs) ≡ joined_at n xs
joined_again n [] = refl
joined_again zero (x ∷ xs) = refl
joined_again (suc n) (x ∷ xs) = ap (λ z. x ∷ z) (joined_again n xs)

joined_twice : (g : Grid) → row_gone_on (row_gone_on g) ≡ row_gone_on g
joined_twice g =
    let r = g.cursor.row in
    let f = joined_at g.cursor.column in
    ap (λ rs. with_rows rs g)
    (row_twice g.rows r f f
    ∙ ap (set g.rows r) (joined_again g.cursor.column (get_or g.rows r [])))

-- the wrap of a character of one column, by whether one is pending and lines wrap
abbrev wrap_by : Size → Bool → Bool → Grid → Grid
wrap_by s p w z = if p then if w then next_line s (row_gone_on z) else settled_grid z else z

wrapped_joined : (s : Size) (g : Grid) → g.cursor.pending && g.modes.wraps ≡ true
    → wrapped_grid s (row_gone_on g) ≡ wrapped_grid s g
wrapped_joined s g h =
    let k = and_parts g.cursor.pending g.modes.wraps h in
    ap (λ p. wrap_by s p g.modes.wraps (row_gone_on g)) k.0
    ∙ ap (λ w. wrap_by s true w (row_gone_on g)) k.1
    ∙ ap (next_line s) (joined_twice g)
    ∙ sym (ap (λ p. wrap_by s p g.modes.wraps g) k.0 ∙ ap (λ w. wrap_by s true w g) k.1)

narrow_once : (s : Size) (g : Grid) → wrapped_grid s (joined_narrow g) ≡ wrapped_grid s g
narrow_once s g = by_test (g.cursor.pending && g.modes.wraps) (λ e. e)
  where
    by_test : (b : Bool) → (b ≡ true → g.cursor.pending && g.modes.wraps ≡ true)
        → wrapped_grid s (if b then row_gone_on g else g) ≡ wrapped_grid s g
    by_test false e = refl
    by_test true e = wrapped_joined s g (e refl)

-- and that of one of two columns, by whether it has room, and whether on the line
abbrev wide_by : Size → ℕ → Bool → Bool → Grid → Grid
wide_by s c r t z =
    if r then printed_wide s c (grid_with_room s 2
    (if t then wrapped_grid s z else next_line s (row_gone_on z)))
    else z

wide_once : (s : Size) (c : ℕ) (g : Grid)
    → grid_by s (joined_by s g (step.PrintWide c)) (step.PrintWide c) ≡ wide_printed s c g
wide_once s c g =
    by_test (has_room s g) (nat_lt (g.cursor.column + 1) s.columns) refl refl
  where
    as_is : (r t : Bool) (z : Grid) → has_room s g ≡ r
        → nat_lt (g.cursor.column + 1) s.columns ≡ t
        → wide_by s c (has_room s g) (nat_lt (g.cursor.column + 1) s.columns) z
        ≡ wide_by s c r t z
    as_is r t z e k =
        ap (λ r. wide_by s c r (nat_lt (g.cursor.column + 1) s.columns) z) e
        ∙ ap (λ t. wide_by s c r t z) k

    on_line : (b : Bool) → (b ≡ true → g.cursor.pending && g.modes.wraps ≡ true)
        → has_room s g ≡ true → nat_lt (g.cursor.column + 1) s.columns ≡ true
        → wide_printed s c (if b then row_gone_on g else g) ≡ wide_printed s c g
    on_line false h e k = refl
    on_line true h e k =
        as_is true true (row_gone_on g) e k
        ∙ ap (λ z. printed_wide s c (grid_with_room s 2 z)) (wrapped_joined s g (h refl))
        ∙ sym (as_is true true g e k)

    by_test : (r t : Bool) → has_room s g ≡ r → nat_lt (g.cursor.column + 1) s.columns ≡ t
        → wide_printed s c (if r then if t then joined_narrow g else row_gone_on g else g)
        ≡ wide_printed s c g
    by_test false t e k = refl
    by_test true true e k = on_line (g.cursor.pending && g.modes.wraps) (λ h. h) e k
    by_test true false e k =
        as_is true false (row_gone_on g) e k
        ∙ ap (λ z. printed_wide s c (grid_with_room s 2 (next_line s z))) (joined_twice g)
        ∙ sym (as_is true false g e k)

pub joins_once : JoinsOnce
joins_once s g (step.Print c) = ap (narrow_put s c) (narrow_once s g)
joins_once s g (step.PrintWide c) = wide_once s c g
joins_once s g (step.Mark c) = refl
joins_once s g (step.Repeat n) = refl
joins_once s g (step.Move x) = refl
joins_once s g (step.Edit x) = refl
joins_once s g (step.Set x) = refl
joins_once s g step.Nothing = refl

-- ---- as many rows go off

gone_wrapped_if : (b : Bool) (g : Grid) → gone_wrapped (if b then row_gone_on g else g)
    ≡ gone_wrapped g
gone_wrapped_if true g = refl
gone_wrapped_if false g = refl

gone_wide_if : (b : Bool) (s : Size) (g h : Grid) → gone_wide s g ≡ gone_wide s h
    → gone_wide s (if b then g else h) ≡ gone_wide s h
gone_wide_if true s g h e = e
gone_wide_if false s g h e = refl

pub gone_joined : (s : Size) (g : Grid) (x : Step)
    → gone_by s (joined_by s g x) x ≡ gone_by s g x
gone_joined s g (step.Print c) = gone_wrapped_if (g.cursor.pending && g.modes.wraps) g
gone_joined s g (step.PrintWide c) =
    gone_wide_if (has_room s g) s _ g
    (either (nat_lt (g.cursor.column + 1) s.columns))
  where
    either : (t : Bool) → gone_wide s (if t then joined_narrow g else row_gone_on g) ≡ gone_wide s g
    either true = gone_wide_if (g.cursor.pending && g.modes.wraps) s (row_gone_on g) g refl
    either false = refl
gone_joined s g (step.Mark c) = refl
gone_joined s g (step.Repeat n) = refl
gone_joined s g (step.Move x) = refl
gone_joined s g (step.Edit x) = refl
gone_joined s g (step.Set x) = refl
gone_joined s g step.Nothing = refl
