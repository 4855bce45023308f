use Rattle.std.proofs.Common.{◌≤◌, ◌+◌, ◌*◌, length}
use Rattle.page_input.proofs.linker.push_linked.Given as goal

abbrev pub invariant-loop-place : goal.invariant-loop-place
invariant-loop-place l =
    length l.made.items + 4 * length l.rest ≤ length l.fn.made.items + 4 * length l.fn.text

abbrev pub decreases-loop-place : goal.decreases-loop-place
decreases-loop-place l = length l.rest
