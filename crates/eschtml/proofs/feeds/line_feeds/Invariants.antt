use Rattle.std.proofs.Common.{length}
use Rattle.eschtml.proofs.feeds.line_feeds.Given as goal

abbrev pub decreases-loop-rest : goal.decreases-loop-rest
decreases-loop-rest l = length l.rest
