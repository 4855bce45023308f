use Rattle.std.proofs.Common.{sym, ◌∙◌}
use Rattle.esc_filter.proofs.Output.RunsOfText.{run_admitted}
use Rattle.esc_filter.proofs.policy.PolicyAdmit.admits_text.Goals as goal

pub returns : goal.returns
returns g c = λ t. run_admitted _ c.args.self.now c.args.text.now (sym c.are_shown.ensures ∙ t)
