use Rattle.esc_actions.proofs.Meaning.StreamMeansReadings.{meaning_of_the_cut}
use Rattle.esc_actions.proofs.laws.meaning_of_the_cut.Goals as goal

pub returns : goal.returns
returns g c = meaning_of_the_cut c.events_once_within.ensures c.events_of_the_cut_within.ensures _
