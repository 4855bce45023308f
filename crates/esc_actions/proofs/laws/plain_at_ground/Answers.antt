use Rattle.esc_actions.proofs.Meaning.StreamMeansReadings.{plain_at_ground}
use Rattle.esc_actions.proofs.laws.plain_at_ground.Goals as goal

pub returns : goal.returns
returns c = plain_at_ground c.events_once_within.ensures c.events_of_the_cut_within.ensures
