use Rattle.std.proofs.Common.{take}
use Rattle.line_collapse.specs.Amounts.{Adds}
use Rattle.line_collapse.specs.RowText.{row_bytes, row_chars}
use Rattle.line_collapse.proofs.amount.Amount.add_row.Given as goal

-- the cells so far were counted
abbrev pub invariant-loop-cell : goal.invariant-loop-cell
invariant-loop-cell l = Adds (row_chars (take l.cell-index l.cells))
    (row_bytes (take l.cell-index l.cells)) l.initial.self l.self
