use Rattle.esc_actions.proofs.Writing.WritableReadsBack.{reads_by_itself}
use Rattle.esc_actions.proofs.laws.reads_by_itself.Goals as goal

pub returns : goal.returns
returns g c = reads_by_itself c.lower_laws.ensures
