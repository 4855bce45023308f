use Rattle.esc_actions.proofs.Writing.WritableReadsBack.{reads_back}
use Rattle.esc_actions.proofs.laws.reads_back.Goals as goal

pub returns : goal.returns
returns g c = reads_back c.lower_laws.ensures
