-- The numbers that a tally has counted.
use Rattle.std.specs.Prelude.{ℕ, ◌≡◌, List, Some}
use Rattle.esc_actions.specs.Values.{value_of}
use Rattle.esc_actions.specs.declared.action.Action.{Action}
use Rattle.esc_parse.specs.Fed.{ParserHasConsumedWithin}
use Rattle.esc_screen.specs.declared.cell.Cell.{Cell}
use Rattle.line_collapse.specs.Amounts.{amount_with, amount}
use Rattle.line_collapse.specs.PrintedText.{bytes_of, chars_of, printed_bytes, printed_chars, values_of}
use Rattle.line_collapse.specs.RowText.{rows_bytes, rows_chars}
use Rattle.line_collapse.specs.declared.amount.Amount.{Amount}
use Rattle.line_collapse.specs.declared.printed.Printed.{Printed}
use Rattle.line_collapse.specs.declared.tally.Tally.{Tally}

-- an action is counted
abbrev pub Prints : {A : Type 0} → Printed → Action A → Printed → Type 0
Prints p a q = q ≡ record p {
  amount = amount_with (chars_of p.rows p.columns (value_of a)) (bytes_of (value_of a)) p.amount;
}

-- the text that a stream prints on a screen of so many rows and columns, and that of rows
abbrev pub printed_amount : Type 0 → ℕ → ℕ → List ℕ → Amount
printed_amount A rows columns s =
    amount (printed_chars rows columns (values_of A s)) (printed_bytes (values_of A s))

abbrev pub kept_amount : List (List Cell) → Amount
kept_amount rs = amount (rows_chars rs) (rows_bytes rs)

-- both were counted
pub record HasTallied {A : Type 0} (rows columns : ℕ) (s : List ℕ) (rs : List (List Cell))
    (t : Tally A) : Type 0 where
  pub parser : ParserHasConsumedWithin (Some 0x1000) s t.parser
  pub height : t.printed.rows ≡ rows
  pub width : t.printed.columns ≡ columns
  pub printed : t.printed.amount ≡ printed_amount A rows columns s
  pub kept : t.kept ≡ kept_amount rs
