use Rattle.esc_actions.specs.Texts.{has_text}
use Rattle.esc_actions.specs.Values.{value_of}
use Rattle.esc_write.proofs.ActionRuns.{all_next, all_taken, text_unless_sixel}
use Rattle.esc_write.proofs.runs.are_without_sixels.Goals as goal

pub loop-action-preserved : goal.loop-action-preserved
loop-action-preserved g c =
    let at = c.loop-action in
    all_next (λ a. has_text (value_of a)) c.args.actions.now at.action-index c.action-item.result
    c.loop-action-test.true c.action-item.is
    (text_unless_sixel c.action-item.result c.in_default.not-Sixel) at.invariant

pub returns : goal.returns
returns g c =
    λ t. all_taken (λ a. has_text (value_of a)) c.args.actions.now c.loop-action.action-index
    c.loop-action-test.false c.loop-action.invariant
