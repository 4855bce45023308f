-- The rows that a stream scrolls off a terminal's screen.
use Rattle.std.specs.Prelude.{ℕ, ◌≡◌, List, [], ◌∷◌, ◌++◌, Some, map}
use Rattle.esc_actions.specs.Meaning.{yield_within}
use Rattle.esc_actions.specs.Values.{Value}
use Rattle.esc_terminal.specs.Links.{Known}
use Rattle.esc_screen.specs.Grids.{Size}
use Rattle.esc_screen.specs.Scrolled.{off_from}
use Rattle.esc_screen.specs.declared.cell.Cell.{Cell}
use Rattle.esc_terminal.specs.Steps.{steps_of}
use Rattle.esc_terminal.specs.Streams.{Shown, first_shown, shown_by, shown_of, values_of}

-- the cells of a row, and the looks and links that they have the numbers of
abbrev pub Row : Type 0
Row = List Cell × Known

abbrev pub with_known : Known → List (List Cell) → List Row
with_known ks rs = map (λ r. (r, ks)) rs

-- the rows that a value scrolls off
abbrev pub off_by_value : {A : Type 0} → Size → Shown → Value A → List Row
off_by_value z t v = with_known t.known (off_from z t.grid (steps_of t.known t.grid.cursor v))

-- and values, one after another
abbrev pub off_after : {A : Type 0} → Size → Shown → List (Value A) → List Row
off_after z t [] = []
off_after z t (v ∷ vs) = off_by_value z t v ++ off_after z (shown_by z t v) vs

-- the rows that a stream scrolls off a terminal of this size
abbrev pub off_of : Type 0 → Size → List ℕ → List Row
off_of A z s = off_after z (first_shown z) (values_of A s)

-- the bytes after a stream scroll off more rows
abbrev pub GoesOffOn : Type 0 → Type 0
GoesOffOn A = (z : Size) (s b : List ℕ) → off_of A z (s ++ b)
    ≡ off_of A z s ++ off_after z (shown_of A z s) (yield_within {A = A} (Some 0x1000) s b)
