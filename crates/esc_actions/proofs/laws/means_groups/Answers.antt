use Rattle.esc_actions.proofs.Values.ValuesComeInGroups.{means_groups}
use Rattle.esc_actions.proofs.laws.means_groups.Goals as goal

pub returns : goal.returns
returns g c = means_groups c.events_of_the_cut.ensures _
