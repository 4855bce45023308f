use Rattle.std.proofs.Common.{◌-◌, ◌≤◌, length}
use Rattle.esc_frame.specs.Scans.{IsFreeTo}
use Rattle.esc_frame.proofs.runs.scans.free_run.Given as goal

abbrev pub invariant-by_block : goal.invariant-by_block
invariant-by_block l = (l.end ≤ length l.bytes) × IsFreeTo l.bytes l.end

abbrev pub decreases-by_block : goal.decreases-by_block
decreases-by_block l = length l.bytes - l.end

abbrev pub invariant-loop-end : goal.invariant-loop-end
invariant-loop-end l = (l.end ≤ length l.bytes) × IsFreeTo l.bytes l.end

abbrev pub decreases-loop-end : goal.decreases-loop-end
decreases-loop-end l = length l.bytes - l.end
