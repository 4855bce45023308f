use Rattle.std.proofs.Common.{length}
use Rattle.page_input.proofs.leads.whole_length.Given as goal

abbrev pub decreases-loop-last : goal.decreases-loop-last
decreases-loop-last l = length l.rest
