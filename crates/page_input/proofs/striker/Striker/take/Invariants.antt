use Rattle.std.proofs.Common.{length}
use Rattle.page_input.proofs.striker.Striker.take.Given as goal

abbrev pub decreases-loop-rest : goal.decreases-loop-rest
decreases-loop-rest l = length l.rest
