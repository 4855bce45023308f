use Rattle.std.proofs.Common.{arith}
use Rattle.esc_account.proofs.Counts.FeedsAddUp.{block_counted, rest_counted, rest_few}
use Rattle.esc_account.proofs.feeds.feeds.Goals as goal

pub loop-at-preserved : goal.loop-at-preserved
loop-at-preserved c =
    let s = c.loop-at in record {
      within = omega (arith, c.loop-at-test.true);
      few = omega (arith, s.invariant.few, c.feeds_of_few-more.ensures.few.1);
      counted = block_counted c.args.bytes.now s.at 192 s.count c.feeds_of_few-more.result
          s.invariant.counted c.feeds_of_few-more.ensures.count;
    }

pub returns-clause-count : goal.returns-clause-count
returns-clause-count c =
    rest_counted c.args.bytes.now c.loop-at.at c.loop-at.count c.feeds_of_few-last.result
    c.loop-at.invariant.counted c.feeds_of_few-last.ensures.count

pub returns-clause-few : goal.returns-clause-few
returns-clause-few c =
    rest_few c.args.bytes.now c.loop-at.at c.loop-at.count c.feeds_of_few-last.result
    c.loop-at.invariant.within c.loop-at.invariant.few c.feeds_of_few-last.ensures.few.0
