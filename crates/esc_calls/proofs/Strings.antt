-- The facts that are written about a row that was found.
use Rattle.std.proofs.Common.{ℕ, ◌≡◌, true, false, [], Option, Some, None, refl, ap, ◌∙◌}
use Rattle.string_commands.specs.Rows.{Finds}
use Rattle.string_commands.specs.declared.row.Row.{Row}
use Rattle.esc_calls.specs.FunctionRows.{padded_bytes}
use Rattle.esc_calls.specs.StringRows.{IsStringRow, SaysString}
use Rattle.esc_calls.specs.declared.string_row.StringRow.{StringRow}

pub says_row : (o : Option ℕ) (row : Row) (r : StringRow) → Finds o (Some row)
    → IsStringRow r row.name.now row.words.now row.told.key row.place → SaysString o r true
says_row o row r h p = rw h.0 (
  record {
    named = p.named ∙ ap (padded_bytes 40) h.1.named;
    worded = p.worded ∙ ap (padded_bytes 80) h.1.worded;
    keyed = p.keyed ∙ ap (λ e. e.key) h.1.told;
    placed = p.placed;
  },
  refl,
)

pub says_none : (o : Option ℕ) (r : StringRow) → Finds o None → IsStringRow r [] [] 0 0
    → SaysString o r false
says_none o r h p = rw h (p, refl)
