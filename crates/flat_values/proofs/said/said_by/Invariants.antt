use Rattle.std.proofs.Common.{◌≡◌, ◌++◌, drop, map}
use Rattle.flat_values.specs.Fields.{row_said}
use Rattle.flat_values.proofs.said.said_by.Given as goal

abbrev pub invariant-loop-row : goal.invariant-loop-row
invariant-loop-row l = map (row_said l.text) l.rows
    ≡ l.all.items ++ map (row_said l.text) (drop l.row-index l.rows)
