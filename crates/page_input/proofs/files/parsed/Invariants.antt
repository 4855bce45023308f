use Rattle.std.proofs.Common.{◌≤◌, length}
use Rattle.page_input.proofs.files.parsed.Given as goal

abbrev pub invariant-loop-at : goal.invariant-loop-at
invariant-loop-at l = length l.rest ≤ length l.fn.text

abbrev pub decreases-loop-at : goal.decreases-loop-at
decreases-loop-at l = length l.rest
