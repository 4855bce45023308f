use Rattle.std.proofs.Common.{◌-◌, ◌≤◌, length}
use Rattle.esc_segments.specs.Places.{IsText}
use Rattle.esc_segments.proofs.text.osc.Given as goal

abbrev pub invariant-loop-end : goal.invariant-loop-end
invariant-loop-end l = (l.end ≤ length l.text) × IsText l.text l.end

abbrev pub decreases-loop-end : goal.decreases-loop-end
decreases-loop-end l = length l.text - l.end
