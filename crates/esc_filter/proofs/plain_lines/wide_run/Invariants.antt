use Rattle.std.proofs.Common.{◌-◌, ◌≤◌, length, take}
use Rattle.esc_filter.specs.Lines.{AreWide}
use Rattle.esc_filter.proofs.plain_lines.wide_run.Given as goal

abbrev pub invariant-loop-end : goal.invariant-loop-end
invariant-loop-end l = (l.end ≤ length l.bytes) × AreWide (take l.end l.bytes)

abbrev pub decreases-loop-end : goal.decreases-loop-end
decreases-loop-end l = length l.bytes - l.end
