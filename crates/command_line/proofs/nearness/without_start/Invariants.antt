use Rattle.std.proofs.Common.{length}
use Rattle.command_line.proofs.nearness.without_start.Given as goal

abbrev pub decreases-loop-a : goal.decreases-loop-a
decreases-loop-a l = length l.one
