use Rattle.std.proofs.Common.{ap, sym, ◌∙◌}
use Rattle.std.specs.Option.{option_map}
use Rattle.esc_parse.proofs.Lists.StepsOverLists.{if_ok_more}
use Rattle.line_collapse.proofs.Closing.{closes_shown, has_screen, has_styles}
use Rattle.line_collapse.proofs.collapse.closed.Goals as goal

pub returns-clause-ok : goal.returns-clause-ok
returns-clause-ok g c = λ z s h.
    if_ok_more _ _ c.with_screen.result
    (λ q k. closes_shown z s _ _ _ c.args.lines q
    (sym (ap (option_map (λ p. p.now)) c.in-Some.is) ∙ c.screen.ensures.value)
    (sym (ap (option_map (λ p. p.now)) c.in-Some-styles.is) ∙ c.styles.ensures.value) h.state k)
    c.with_screen.ensures.ok

pub returns-in_default-clause-refused : goal.returns-in_default-clause-refused
returns-in_default-clause-refused g c = λ z s h.
    absurd (has_screen z s _
    (sym (ap (option_map (λ p. p.now)) c.in_default.is) ∙ c.screen.ensures.value) h.state)

pub returns-in_default-styles-clause-refused : goal.returns-in_default-styles-clause-refused
returns-in_default-styles-clause-refused g c = λ z s h.
    absurd (has_styles z s _
    (sym (ap (option_map (λ p. p.now)) c.in_default-styles.is) ∙ c.styles.ensures.value) h.state)
