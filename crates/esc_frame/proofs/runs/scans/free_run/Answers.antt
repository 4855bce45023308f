use Rattle.std.proofs.Common.{◌+◌, refl, arith}
use Rattle.esc_frame.proofs.ByteRuns.ClearRuns.{free_less, free_more, free_next}
use Rattle.esc_frame.proofs.runs.scans.free_run.Goals as goal

pub returns-then-not-is_free_at-clause-run : goal.returns-then-not-is_free_at-clause-run
returns-then-not-is_free_at-clause-run c =
    free_more c.args.bytes.now c.by_block.end c.free_in_wide_lanes-run.result (omega arith)
    c.free_in_wide_lanes-run.ensures.run
    c.free_in_wide_lanes-run.ensures.few c.by_block.invariant.1

pub by_block-preserved-then-run-lt32 : goal.by_block-preserved-then-run-lt32
by_block-preserved-then-run-lt32 c = (
  omega arith,
  free_next c.args.bytes.now (c.by_block.end + c.free_in_wide_lanes-run.result)
      (free_more c.args.bytes.now c.by_block.end c.free_in_wide_lanes-run.result (omega arith)
      c.free_in_wide_lanes-run.ensures.run
      c.free_in_wide_lanes-run.ensures.few c.by_block.invariant.1)
      (c.if-not-is_free_at.ensures refl),
)

pub by_block-preserved : goal.by_block-preserved
by_block-preserved c = (
  omega arith,
  free_more c.args.bytes.now c.by_block.end c.free_in_wide_lanes-run.result (omega arith)
      c.free_in_wide_lanes-run.ensures.run
      c.free_in_wide_lanes-run.ensures.few c.by_block.invariant.1,
)

pub returns-clause-run : goal.returns-clause-run
returns-clause-run c = free_less c.args.bytes.now c.loop-end.end c.before_character.result
    c.before_character.ensures c.loop-end.invariant.1
