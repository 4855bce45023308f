use Rattle.std.proofs.Common.{◌+◌, ◌*◌, ◌<◌, ap, ◌∙◌, length, arith}
use Rattle.esc_frame.specs.Bodies.{capped_at_i64}
use Rattle.esc_frame.proofs.Steps.DigitsHaveValues.{value_next}
use Rattle.esc_frame.proofs.unfinished.header.number_of.Goals as goal

pub loop-b-preserved : goal.loop-b-preserved
loop-b-preserved c =
    let h : c.loop-b.b-index < length c.args.osc_unit.now = omega arith in
    c.next_number-number.ensures.value ∙ ap (λ d. capped_at_i64 (10 * c.loop-b.number + d))
    c.saturating_sub.ensures
    ∙ value_next c.args.osc_unit.now c.loop-b.b-index c.loop-b.number h c.loop-b.invariant
