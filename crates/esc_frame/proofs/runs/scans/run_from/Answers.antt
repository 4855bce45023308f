use Rattle.std.proofs.Common.{arith}
use Rattle.std.proofs.lemmas.List.Sums.{prefix_len-le-length}
use Rattle.esc_frame.specs.Sequences.{is_from}
use Rattle.esc_frame.proofs.ByteRuns.LanesPass.{run_full, run_short}
use Rattle.esc_frame.proofs.runs.scans.run_from.Goals as goal

pub returns-then-run-lt32 : goal.returns-then-run-lt32
returns-then-run-lt32 c =
    let e = run_short (is_from 0x20 c.args.last) 32 c.args.bytes.now c.by_block.end _
    (omega arith) c.run_in_wide_lanes-run.ensures c.if-run-lt32.true c.by_block.invariant.1 in
    let l = prefix_len-le-length (is_from 0x20 c.args.last) c.args.bytes.now in
    record { run = e; few = omega arith }

pub by_block-preserved : goal.by_block-preserved
by_block-preserved c = (
  omega arith,
  run_full (is_from 0x20 c.args.last) 32 c.args.bytes.now c.by_block.end _
      (omega arith) c.run_in_wide_lanes-run.ensures c.if-run-lt32.false c.by_block.invariant.1,
)
