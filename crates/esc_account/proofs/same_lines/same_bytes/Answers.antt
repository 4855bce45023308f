use Rattle.std.proofs.Common.{arith}
use Rattle.esc_account.proofs.Lines.BytesAreTheSame.{block_more}
use Rattle.esc_account.proofs.same_lines.same_bytes.Goals as goal

pub loop-at-preserved : goal.loop-at-preserved
loop-at-preserved c = record {
  few = omega (arith, c.loop-at-test.true);
  same = block_more c.loop-at.at 256 c.args.bytes.now c.args.text.now c.loop-at.invariant.same
      (c.is_same.ensures.0 c.if-is_same.true);
}

pub loop-at-2-preserved : goal.loop-at-2-preserved
loop-at-2-preserved c = record {
  few = omega (arith, c.loop-at-2-test.true);
  same = block_more c.loop-at-2.at 16 c.args.bytes.now c.args.text.now c.loop-at-2.invariant.same
      (c.is_same-in-loop-at-2.ensures.0 c.if-is_same-2.true);
}
