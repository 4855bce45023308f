use Rattle.esc_osc_values.proofs.Turns.{mapped_more, no_part}
use Rattle.esc_osc_values.proofs.read_items.copied.Goals as goal

pub loop-part-preserved : goal.loop-part-preserved
loop-part-preserved g c =
    mapped_more (λ p. p.now) c.args.parts.now c.loop-part.part-index no_part c.loop-part.made.items
    c.push.new.vec.items c.in_ok-from_slice.field-0 c.loop-part-test.true
    c.in_ok-from_slice.ensures.ok c.in_ok-push.ensures.items c.loop-part.invariant
