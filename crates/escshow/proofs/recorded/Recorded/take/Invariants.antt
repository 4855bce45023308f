use Rattle.std.proofs.Common.{length}
use Rattle.escshow.proofs.recorded.Recorded.take.Given as goal

abbrev pub decreases-loop-at : goal.decreases-loop-at
decreases-loop-at g l = length l.rest
