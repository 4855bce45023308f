use Rattle.std.proofs.Common.{eqb-true, sym, ◌∙◌}
use Rattle.esc_html.proofs.Sequences.OneNumberIsOneValue.{asks_common, asks_reset}
use Rattle.esc_html.proofs.Texts.RunsAreEscaped.{nothing_left}
use Rattle.esc_html.proofs.renditions.common_of.Goals as goal

pub returns-then-is_empty : goal.returns-then-is_empty
returns-then-is_empty c =
    asks_reset c.args.params.now
    (nothing_left _ (eqb-true _ _ (sym c.is_empty.ensures ∙ c.if-is_empty.true)))

pub returns-in-Some : goal.returns-in-Some
returns-in-Some c =
    asks_common c.args.params.now c.common_at.result c.in-Some.number (sym c.in-Some.ensures)
    c.common_at.ensures
