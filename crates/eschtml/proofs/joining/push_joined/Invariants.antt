use Rattle.std.proofs.Common.{◌≡◌, ◌++◌, ◌≤◌, ◌-◌, length, take}
use Rattle.eschtml.specs.Joined.{held_after, joined_after}
use Rattle.eschtml.proofs.joining.push_joined.Given as goal

abbrev pub invariant-loop-at : goal.invariant-loop-at
invariant-loop-at g l = record {
  within : l.at ≤ length l.bytes;
  joins : l.text.items ≡ l.fn.text.items ++ joined_after l.fn.held (take l.at l.bytes);
  last : l.last ≡ held_after l.fn.held (take l.at l.bytes);
}

abbrev pub decreases-loop-at : goal.decreases-loop-at
decreases-loop-at g l = length l.bytes - l.at
