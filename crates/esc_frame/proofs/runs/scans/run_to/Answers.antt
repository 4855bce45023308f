use Rattle.std.proofs.Common.{arith}
use Rattle.std.proofs.lemmas.List.Sums.{prefix_len-le-length}
use Rattle.esc_frame.specs.Sequences.{is_from}
use Rattle.esc_frame.proofs.ByteRuns.LanesPass.{run_full, run_short}
use Rattle.esc_frame.proofs.runs.scans.run_to.Goals as goal

pub returns-then-run-lt16 : goal.returns-then-run-lt16
returns-then-run-lt16 c =
    let e = run_short (is_from 0x20 c.args.last) 16 c.args.bytes.now 0 _ (omega arith)
    c.run_in_lanes-run.ensures c.if-run-lt16.true (omega arith) in
    let l = prefix_len-le-length (is_from 0x20 c.args.last) c.args.bytes.now in
    record { run = omega (arith, e); few = omega arith }

pub run_from-requires-clause-part : goal.run_from-requires-clause-part
run_from-requires-clause-part c = record {
  some = omega arith;
  part = run_full (is_from 0x20 c.args.last) 16 c.args.bytes.now 0 _ (omega arith)
      c.run_in_lanes-run.ensures c.if-run-lt16.false (omega arith);
}
