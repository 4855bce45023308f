use Rattle.esc_filter.proofs.Output.PartsAreAppended.{one_more}
use Rattle.esc_filter.proofs.giving_back.push_all.Goals as goal

pub loop-part-preserved : goal.loop-part-preserved
loop-part-preserved g c =
    one_more (λ s. s.now) c.args.parts.now c.loop-part.part-index _ c.args.text.now
    c.loop-part.text c.push_str.new.self c.loop-part-test.true c.loop-part.invariant
    c.in-Ok.ensures.ok
