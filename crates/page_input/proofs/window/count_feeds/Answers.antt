use Rattle.std.proofs.Common.{arith}
use Rattle.page_input.proofs.Lines.{counted_next, none_first}
use Rattle.page_input.proofs.window.count_feeds.Goals as goal

pub loop-at-preserved : goal.loop-at-preserved
loop-at-preserved c =
    counted_next c.loop-at.count c.in-Some.at c.loop-at.rest.now c.args.bytes.now
    c.in-Some.ensures c.loop-at.invariant.0 c.loop-at.invariant.1

pub returns : goal.returns
returns c = omega (
  arith,
  c.loop-at.invariant.1,
  (none_first 0 c.loop-at.rest.now c.in_default.ensures).0,
)
