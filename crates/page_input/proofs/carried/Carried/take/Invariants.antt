use Rattle.std.proofs.Common.{length}
use Rattle.page_input.proofs.carried.Carried.take.Given as goal

abbrev pub decreases-loop-rest : goal.decreases-loop-rest
decreases-loop-rest l = length l.rest
