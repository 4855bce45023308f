use Rattle.std.proofs.Common.{None, Some, false, sym, ap, ◌∙◌}
use Rattle.esc_filter.proofs.Output.DeceivingCharacters.{of_nothing}
use Rattle.esc_actions.proofs.Meaning.MeaningsJoin.{meaning_nil}
use Rattle.esc_filter.proofs.filter.Filter.restart.Goals as goal
use Rattle.esc_filter.specs.Characters.{last_after}
use Rattle.esc_filter.specs.Closing.{after_values}
use Rattle.esc_filter.specs.Terminal.{as_at_start}
use Rattle.esc_filter.specs.Pens.{pen_after, start_pen}
use Rattle.esc_filter.specs.Fed.{policy_of}
use Rattle.esc_filter.specs.Passing.{in_lines}
use Rattle.esc_normal.specs.Texts.{ends_in_string}

pub returns-clause-fed : goal.returns-clause-fed
returns-clause-fed g c = λ b u limit s h.
    let admits = in_lines b (g.P.Admit.admits (policy_of c.args.self.now)) in
    let nil = sym (meaning_nil (Some limit)) in
    let n = c.restart-2.ensures.noted in (
      c.restart.ensures.fed (Some limit) s h.0,
      (
        n.0 ∙ ap (ends_in_string false) (of_nothing u admits nil),
        n.1 ∙ ap (λ vs. after_values vs as_at_start) (of_nothing u admits nil),
        n.2 ∙ h.1.2,
        n.3 ∙ h.1.3,
        n.4 ∙ ap (last_after None) (of_nothing u admits nil),
        n.5 ∙ ap start_pen h.1.2 ∙ ap (λ vs. pen_after vs (start_pen b)) (of_nothing u admits nil),
      ),
    )
