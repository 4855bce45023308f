use Rattle.esc_actions.proofs.Writing.NormalIsWritable.{normal_once}
use Rattle.esc_actions.proofs.laws.normal_once.Goals as goal

pub returns : goal.returns
returns g c = λ s h. normal_once c.reads_back.ensures s h
