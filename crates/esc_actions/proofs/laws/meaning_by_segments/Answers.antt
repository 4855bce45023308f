use Rattle.esc_actions.proofs.Meaning.StreamMeansReadings.{meaning_by_segments}
use Rattle.esc_actions.proofs.laws.meaning_by_segments.Goals as goal

pub returns : goal.returns
returns g c = meaning_by_segments _ c.meaning_of_the_cut.ensures
