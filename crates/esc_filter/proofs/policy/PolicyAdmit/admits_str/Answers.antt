use Rattle.std.proofs.Common.{ap, ◌∙◌, sym}
use Rattle.std.specs.List.{list_all}
use Rattle.esc_filter.specs.Rules.{is_shown}
use Rattle.esc_filter.proofs.Output.RunsOfText.{str_admitted}
use Rattle.esc_filter.proofs.policy.PolicyAdmit.admits_str.Goals as goal

pub returns : goal.returns
returns g c = λ t.
    str_admitted _ c.args.self.now c.args.text.now c.utf8.text
    (ap (list_all is_shown) (sym c.as_bytes.ensures.value) ∙ sym c.are_shown.ensures ∙ t)
