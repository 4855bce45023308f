use Rattle.std.proofs.Common.{length}
use Rattle.eschtml.proofs.timing.Timing.timed.Given as goal

abbrev pub decreases-loop-rest : goal.decreases-loop-rest
decreases-loop-rest g l = length l.rest
