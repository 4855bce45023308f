use Rattle.std.proofs.Common.{◌≤◌, ◌+◌, ◌*◌, length}
use Rattle.page_input.specs.Linked.{weight}
use Rattle.page_input.proofs.linker.Linker.take.Given as goal

abbrev pub invariant-loop-rest : goal.invariant-loop-rest
invariant-loop-rest l =
    weight l.self + 4 * length l.rest ≤ weight l.fn.self + 4 * length l.fn.bytes

abbrev pub decreases-loop-rest : goal.decreases-loop-rest
decreases-loop-rest l = length l.rest
