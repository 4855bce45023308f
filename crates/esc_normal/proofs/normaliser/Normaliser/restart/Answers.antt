use Rattle.std.proofs.Common.{false, sym, ap, ◌∙◌}
use Rattle.esc_actions.proofs.Meaning.MeaningsJoin.{meaning_nil}
use Rattle.esc_normal.specs.Texts.{ends_in_string}
use Rattle.esc_normal.proofs.normaliser.Normaliser.restart.Goals as goal

pub returns-clause-fed : goal.returns-clause-fed
returns-clause-fed g c = λ limit s h. (
  c.restart.ensures.fed limit s h.0,
  c.new.ensures.plain ∙ ap (ends_in_string false) (sym (meaning_nil limit)),
)
