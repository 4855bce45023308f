use Rattle.std.proofs.Common.{◌≡◌, ◌≤◌, ◌+◌, length}
use Rattle.page_input.specs.Lines.{feeds}
use Rattle.page_input.proofs.window.count_feeds.Given as goal

abbrev pub invariant-loop-at : goal.invariant-loop-at
invariant-loop-at l =
    (l.count + length l.rest ≤ length l.fn.bytes)
    × (l.count + feeds l.rest ≡ feeds l.fn.bytes)

abbrev pub decreases-loop-at : goal.decreases-loop-at
decreases-loop-at l = length l.rest
