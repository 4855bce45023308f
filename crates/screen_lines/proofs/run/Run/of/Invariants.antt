use Rattle.std.proofs.Common.{◌-◌, length}
use Rattle.screen_lines.specs.Runs.{BeginWith}
use Rattle.screen_lines.proofs.run.Run.of.Given as goal

-- the cells so far are plain
abbrev pub invariant-loop-run : goal.invariant-loop-run
invariant-loop-run l = BeginWith l.look l.run l.cells

abbrev pub decreases-loop-run : goal.decreases-loop-run
decreases-loop-run l = 64 - length l.run
