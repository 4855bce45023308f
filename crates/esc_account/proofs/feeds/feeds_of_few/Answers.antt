use Rattle.std.proofs.Common.{◌+◌, ap, sym, ◌∙◌, arith}
use Rattle.esc_account.proofs.Counts.FeedsAddUp.{byte_counted}
use Rattle.esc_account.proofs.feeds.feeds_of_few.Goals as goal

pub loop-b-preserved : goal.loop-b-preserved
loop-b-preserved c =
    let s = c.loop-b in record {
      few = omega (arith, s.invariant.few, c.feed_of-count.ensures.few);
      counted = ap (λ v. s.count + v) c.feed_of-count.ensures.count
          ∙ sym (byte_counted c.args.bytes.now s.b-index s.count _ c.loop-b-test.true
          s.invariant.counted);
    }
