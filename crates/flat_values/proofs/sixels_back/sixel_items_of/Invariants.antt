use Rattle.std.proofs.Common.{◌≡◌, ◌++◌, drop, map}
use Rattle.flat_values.specs.Sixels.{sixel_row}
use Rattle.flat_values.proofs.sixels_back.sixel_items_of.Given as goal

-- the rows of the items so far, and then those that are left, are all
abbrev pub invariant-loop-row : goal.invariant-loop-row
invariant-loop-row l = map sixel_row l.items ++ drop l.row-index l.rows ≡ l.rows
