-- The text that a stream prints, and that stands in no row at last.
use Rattle.std.specs.Prelude.{ℕ, if◌then◌else◌, List, ◌++◌, map}
use Rattle.line_collapse.specs.Amounts.{amount, missing}
use Rattle.line_collapse.specs.PrintedText.{printed_bytes, printed_chars}
use Rattle.line_collapse.specs.Tallies.{kept_amount}
use Rattle.line_collapse.specs.declared.amount.Amount.{Amount}
use Rattle.esc_actions.specs.Values.{Value}
use Rattle.esc_screen.specs.declared.cell.Cell.{Cell}
use Rattle.esc_terminal.specs.Scrolled.{Row, off_after, off_of}
use Rattle.esc_terminal.specs.Streams.{first_shown}
use Rattle.line_collapse.specs.Streams.{rows_left, shown_by_all}
use Rattle.line_collapse.specs.Windows.{Size, screen_of}

abbrev pub cells_of : List Row → List (List Cell)
cells_of rs = map (λ r. r.0) rs

-- the cells of the rows that are final of a stream
abbrev pub final_cells : (A : Type 0) → Size → List ℕ → List (List Cell)
final_cells A z s = cells_of (off_of A (screen_of z) s)

-- those of all rows that are left of values
abbrev pub kept_cells : {A : Type 0} → Size → List (Value A) → List (List Cell)
kept_cells z vs = cells_of (off_after (screen_of z) (first_shown (screen_of z)) vs)
    ++ rows_left (shown_by_all z vs).known (shown_by_all z vs).grid

-- the text that values print, or make at most
abbrev pub printed_of : {A : Type 0} → Size → List (Value A) → Amount
printed_of z vs =
    amount (printed_chars (screen_of z).rows (screen_of z).columns vs) (printed_bytes vs)

-- how much of it stands in none of these rows
abbrev pub lost_of : {A : Type 0} → Size → List (Value A) → ℕ
lost_of z vs = missing (printed_of z vs) (kept_amount (kept_cells z vs))

-- on a screen that counts it
abbrev pub lost_by : {A : Type 0} → Size → List (Value A) → ℕ
lost_by z vs = if z.counts then lost_of z vs else 0
