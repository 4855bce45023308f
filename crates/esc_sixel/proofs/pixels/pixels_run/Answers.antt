use Rattle.std.proofs.Common.{arith}
use Rattle.esc_sixel.proofs.Runs.RunsOfPixels.{joined, one_more}
use Rattle.esc_sixel.proofs.pixels.pixels_run.Goals as goal

pub returns-then-run-lt16-clause-run : goal.returns-then-run-lt16-clause-run
returns-then-run-lt16-clause-run c =
    joined c.args.bytes.now c.by_block.end c.run_in_lanes-run.result c.by_block.invariant.1
    c.run_in_lanes-run.ensures.run

pub by_block-preserved : goal.by_block-preserved
by_block-preserved c = (
  omega (arith, c.run_in_lanes-run.ensures.few),
  joined c.args.bytes.now c.by_block.end c.run_in_lanes-run.result c.by_block.invariant.1
      c.run_in_lanes-run.ensures.run,
)

pub loop-end-preserved : goal.loop-end-preserved
loop-end-preserved c = (
  omega arith,
  one_more c.args.bytes.now c.loop-end.end (omega arith) c.loop-end.invariant.1 (omega arith)
      (omega arith),
)
