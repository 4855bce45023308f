use Rattle.std.proofs.Common.{◌≤◌, ◌-◌, length, take}
use Rattle.std.specs.List.{FoldsTo}
use Rattle.esc_sixel.specs.Steps.{Pushes}
use Rattle.esc_sixel.proofs.builder.SixelBuilder.push_run.Given as goal

-- the bytes so far are taken, each by a push
abbrev pub invariant-loop-at : goal.invariant-loop-at
invariant-loop-at g l = (l.at ≤ length l.bytes)
    × FoldsTo Pushes l.fn.self (take l.at l.bytes) l.self

abbrev pub decreases-loop-at : goal.decreases-loop-at
decreases-loop-at g l = length l.bytes - l.at
