use Rattle.std.proofs.Common.{◌∙◌, ap, sym}
use Rattle.esc_filter.specs.Rules.{changes_with}
use Rattle.esc_filter.proofs.GivingBack.ScreenFunctions.{other_changes}
use Rattle.esc_filter.proofs.screen.changes_with.Goals as goal

pub returns-in-SM : goal.returns-in-SM
unfolding changes_with
returns-in-SM c = c.is_lone_mode.ensures
    ∙ sym (ap (λ f. changes_with f c.args.params.now) c.in-SM.is)

pub returns-in-RM : goal.returns-in-RM
unfolding changes_with
returns-in-RM c = c.is_lone_mode-in-RM.ensures
    ∙ sym (ap (λ f. changes_with f c.args.params.now) c.in-RM.is)

pub returns-in-DECSET : goal.returns-in-DECSET
unfolding changes_with
returns-in-DECSET c = c.are_private_modes.ensures
    ∙ sym (ap (λ f. changes_with f c.args.params.now) c.in-DECSET.is)

pub returns-in-DECRST : goal.returns-in-DECRST
unfolding changes_with
returns-in-DECRST c = c.are_private_modes-in-DECRST.ensures
    ∙ sym (ap (λ f. changes_with f c.args.params.now) c.in-DECRST.is)

pub returns-in-DECSCUSR : goal.returns-in-DECSCUSR
unfolding changes_with
returns-in-DECSCUSR c = c.is_shape.ensures
    ∙ sym (ap (λ f. changes_with f c.args.params.now) c.in-DECSCUSR.is)

pub returns-in_default : goal.returns-in_default
returns-in_default c = c.changes_screen.ensures
    ∙ other_changes c.args.function c.args.params.now c.in_default.not-SM c.in_default.not-RM
    c.in_default.not-DECSET c.in_default.not-DECRST c.in_default.not-DECSCUSR
