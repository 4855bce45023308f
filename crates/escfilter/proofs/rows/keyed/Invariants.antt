use Rattle.std.proofs.Common.{◌≡◌, ◌≤◌, ◌+◌, drop, length}
use Rattle.escfilter.specs.Rows.{keys_count}
use Rattle.escfilter.proofs.rows.keyed.Given as goal

abbrev pub decreases-loop-at : goal.decreases-loop-at
decreases-loop-at l = l.at

abbrev pub invariant-loop-at : goal.invariant-loop-at
invariant-loop-at l = record {
  within : l.count + l.at ≤ length l.rows;
  counted : keys_count (drop l.at l.rows) ≡ l.count;
}
