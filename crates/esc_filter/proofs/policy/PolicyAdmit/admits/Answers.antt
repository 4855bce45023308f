use Rattle.std.proofs.Common.{sym, ◌∙◌}
use Rattle.esc_actions.specs.Values.{value_of}
use Rattle.esc_filter.proofs.Output.RunsOfText.{text_passes}
use Rattle.esc_filter.proofs.policy.PolicyAdmit.admits.Goals as goal

pub returns-then-is_text : goal.returns-then-is_text
returns-then-is_text g c =
    text_passes c.args.self.now (value_of c.args.action.now)
    (sym c.is_text.ensures ∙ c.if-is_text.true)
