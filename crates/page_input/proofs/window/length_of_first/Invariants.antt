use Rattle.std.proofs.Common.{◌≡◌, ◌≤◌, ◌++◌, length, take, drop}
use Rattle.page_input.specs.Lines.{first_lines}
use Rattle.page_input.proofs.window.length_of_first.Given as goal

abbrev pub invariant-loop-left : goal.invariant-loop-left
invariant-loop-left l =
    (l.end ≤ length l.bytes)
    × (take l.end l.bytes ++ first_lines l.left (drop l.end l.bytes)
    ≡ first_lines l.fn.lines l.bytes)

abbrev pub decreases-loop-left : goal.decreases-loop-left
decreases-loop-left l = l.left
