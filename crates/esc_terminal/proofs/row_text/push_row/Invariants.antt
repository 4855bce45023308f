use Rattle.std.proofs.Common.{◌≡◌, ◌≤◌, ◌++◌, drop, string_bytes}
use Rattle.esc_terminal.specs.Rows.{cells_text}
use Rattle.esc_terminal.proofs.row_text.push_row.Given as goal

-- the cells that are left are added
abbrev pub invariant-loop-cell : goal.invariant-loop-cell
invariant-loop-cell g l = (l.blanks ≤ l.cell-index)
    × (string_bytes l.text ++ cells_text l.blanks (drop l.cell-index l.cells)
    ≡ string_bytes l.fn.text ++ cells_text 0 l.cells)
