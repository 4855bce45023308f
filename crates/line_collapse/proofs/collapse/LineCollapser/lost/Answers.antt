use Rattle.std.proofs.Common.{ap, sym, ◌∙◌}
use Rattle.std.specs.Option.{option_map}
use Rattle.line_collapse.proofs.Closing.{has_screen, has_styles}
use Rattle.line_collapse.proofs.Losing.{all_lost, none_lost}
use Rattle.line_collapse.specs.Streams.{values_of}
use Rattle.line_collapse.specs.Windows.{screen_of}
use Rattle.line_collapse.proofs.collapse.LineCollapser.lost.Goals as goal

pub returns : goal.returns
returns g c = λ z s h.
    all_lost z s _ _ _ _ _ _ c.in-Some.is h.tally
    (sym (ap (option_map (λ p. p.now)) c.in-Some-screen.is) ∙ c.screen.ensures.value)
    (sym (ap (option_map (λ p. p.now)) c.in-Some-styles.is) ∙ c.styles.ensures.value)
    h.terminal.state
    (λ i j rs. c.lost_on.ensures i j s rs)

pub returns-in_default : goal.returns-in_default
returns-in_default g c = λ z s h.
    none_lost z s _ (values_of g.row.A.Denot s) c.in_default.is h.tally

pub returns-in_default-screen : goal.returns-in_default-screen
returns-in_default-screen g c = λ z s h.
    absurd (has_screen (screen_of z) s _
    (sym (ap (option_map (λ p. p.now)) c.in_default-screen.is) ∙ c.screen.ensures.value)
    h.terminal.state)

pub returns-in_default-styles : goal.returns-in_default-styles
returns-in_default-styles g c = λ z s h.
    absurd (has_styles (screen_of z) s _
    (sym (ap (option_map (λ p. p.now)) c.in_default-styles.is) ∙ c.styles.ensures.value)
    h.terminal.state)
