use Rattle.std.proofs.Common.{◌≤◌, length}
use Rattle.page_input.proofs.linker.word_start.Given as goal

abbrev pub invariant-loop-last : goal.invariant-loop-last
invariant-loop-last l = (l.start ≤ length l.fn.text) × (length l.rest ≤ length l.fn.text)

abbrev pub decreases-loop-last : goal.decreases-loop-last
decreases-loop-last l = length l.rest
