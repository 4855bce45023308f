-- The row of a control string, as a call writes it.
use Rattle.std.specs.Prelude.{ℕ, ◌≡◌, Bool, true, false, List, [], get_or, Option, None, Some}
use Rattle.string_commands.specs.Rows.{entry_at, names, words}
use Rattle.esc_calls.specs.FunctionRows.{padded_bytes}
use Rattle.esc_calls.specs.declared.string_row.StringRow.{StringRow}

-- the row r has the name n, the words w, this key and this place
pub record IsStringRow (r : StringRow) (n w : List ℕ) (key place : ℕ) : Type 0 where
  pub named : r.name ≡ padded_bytes 40 n
  pub worded : r.phrase ≡ padded_bytes 80 w
  pub keyed : r.key ≡ key
  pub placed : r.row ≡ place

-- the output for the string in a place is its row, and for none that there is none, with a row of
-- zeros
abbrev pub SaysString : Option ℕ → StringRow → Bool → Type 0
SaysString None r there = IsStringRow r [] [] 0 0 × (there ≡ false)
SaysString (Some i) r there =
    IsStringRow r (get_or names i []) (get_or words i []) (entry_at i).key i × (there ≡ true)
