use Rattle.esc_osc_values.proofs.Parts.{joined_whole}
use Rattle.esc_osc_values.proofs.read_items.joined.Goals as goal

pub returns-clause-ok : goal.returns-clause-ok
returns-clause-ok g c =
    joined_whole (λ p. p.now) c.args.rest.now c.loop-part.part-index c.args.first.now
    c.in_ok-bytes.bytes.items c.loop-part.bytes.items c.loop-part-test.false
    c.in_ok-bytes.ensures.ok c.loop-part.invariant
