use Rattle.std.proofs.Common.{◌∙◌, ap, sym}
use Rattle.esc_filter.specs.Rules.{escape_changes_with}
use Rattle.esc_filter.proofs.GivingBack.ScreenFunctions.{other_escape}
use Rattle.esc_filter.proofs.screen.escape_changes_with.Goals as goal

pub returns-in-GZD4 : goal.returns-in-GZD4
unfolding escape_changes_with
returns-in-GZD4 c = c.is_common_set.ensures
    ∙ sym (ap (λ f. escape_changes_with f c.args.esc) c.in-GZD4.is)

pub returns-in-G1D4 : goal.returns-in-G1D4
unfolding escape_changes_with
returns-in-G1D4 c = c.is_common_set-in-G1D4.ensures
    ∙ sym (ap (λ f. escape_changes_with f c.args.esc) c.in-G1D4.is)

pub returns-in-G2D4 : goal.returns-in-G2D4
unfolding escape_changes_with
returns-in-G2D4 c = c.is_common_set-in-G2D4.ensures
    ∙ sym (ap (λ f. escape_changes_with f c.args.esc) c.in-G2D4.is)

pub returns-in-G3D4 : goal.returns-in-G3D4
unfolding escape_changes_with
returns-in-G3D4 c = c.is_common_set-in-G3D4.ensures
    ∙ sym (ap (λ f. escape_changes_with f c.args.esc) c.in-G3D4.is)

pub returns-in_default : goal.returns-in_default
returns-in_default c = c.changes_screen.ensures
    ∙ other_escape c.args.function c.args.esc c.in_default.not-GZD4 c.in_default.not-G1D4
    c.in_default.not-G2D4 c.in_default.not-G3D4
