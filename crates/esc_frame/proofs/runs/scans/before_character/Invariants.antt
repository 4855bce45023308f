use Rattle.std.proofs.Common.{◌≤◌}
use Rattle.esc_frame.proofs.runs.scans.before_character.Given as goal

abbrev pub invariant-loop-at : goal.invariant-loop-at
invariant-loop-at l = l.at ≤ l.fn.end

abbrev pub decreases-loop-at : goal.decreases-loop-at
decreases-loop-at l = l.at
