use Rattle.std.proofs.Common.{lit≤}
use Rattle.screen_lines.proofs.Runs.{zeros_ascii}
use Rattle.screen_lines.proofs.run.Run.new.Goals as goal

pub invariant_of-result : goal.invariant_of-result
invariant_of-result c = (lit≤ tt, zeros_ascii 64)
