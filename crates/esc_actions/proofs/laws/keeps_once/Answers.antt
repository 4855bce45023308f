use Rattle.std.proofs.Common.{ap, inl, inr, ◌∙◌}
use Rattle.esc_frame.specs.Limits.{kept_within}
use Rattle.esc_actions.proofs.Meaning.StreamMeansReadings.{kept_once}
use Rattle.esc_actions.proofs.Meaning.WithinLimitIsSame.{nothing_kept}
use Rattle.esc_actions.specs.Values.{data_count}
use Rattle.esc_actions.proofs.laws.keeps_once.Goals as goal

pub returns : goal.returns
returns c = λ limit s gs cut.
    elim (kept_once c.events_once_within.ensures c.events_of_the_cut_within.ensures
    limit s gs cut) [
      | inl e ↦ inr (ap (λ m. kept_within limit (data_count m)) e ∙ nothing_kept limit)
      | inr e ↦ inl e
    ]
