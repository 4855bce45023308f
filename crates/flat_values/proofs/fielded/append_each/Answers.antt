use Rattle.flat_values.proofs.Tables.{after_item}
use Rattle.flat_values.proofs.fielded.append_each.Goals as goal

pub loop-item-preserved : goal.loop-item-preserved
loop-item-preserved g c =
    after_item g.T.Fielded.parts c.loop-item.fields c.append_to.new.fields _ c.args.items.now
    c.loop-item.item-index c.item-item.result c.loop-item-test.true c.item-item.is
    c.loop-item.invariant c.in_ok-append_to.ensures.ok
