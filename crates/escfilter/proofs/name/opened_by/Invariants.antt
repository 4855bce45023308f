use Rattle.std.proofs.Common.{◌≡◌, ◌≤◌, drop, length, ◌-◌}
use Rattle.escfilter.specs.Names.{opened_by}
use Rattle.escfilter.proofs.name.opened_by.Given as goal

abbrev pub decreases-loop-at : goal.decreases-loop-at
decreases-loop-at l = length l.bytes - l.at

abbrev pub invariant-loop-at : goal.invariant-loop-at
invariant-loop-at l = record {
  within : l.at ≤ length l.bytes;
  rest : opened_by l.bytes ≡ opened_by (drop l.at l.bytes);
}
