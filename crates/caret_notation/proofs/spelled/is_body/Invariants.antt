use Rattle.std.proofs.Common.{◌≡◌, ◌≤◌, ◌-◌, Some, length, drop}
use Rattle.caret_notation.specs.Spelled.{is_body, is_body_after}
use Rattle.caret_notation.proofs.spelled.is_body.Given as goal

abbrev pub invariant-loop-at : goal.invariant-loop-at
invariant-loop-at l = record {
  within : l.at ≤ length l.bytes;
  same : is_body_after (Some l.digits) (drop l.at l.bytes) ≡ is_body l.bytes;
}

abbrev pub decreases-loop-at : goal.decreases-loop-at
decreases-loop-at l = length l.bytes - l.at
