use Rattle.std.proofs.Common.{◌≤◌, length}
use Rattle.page_input.proofs.address.without_end.Given as goal

abbrev pub invariant-loop-end : goal.invariant-loop-end
invariant-loop-end l = l.end ≤ length l.address

abbrev pub decreases-loop-end : goal.decreases-loop-end
decreases-loop-end l = l.end
