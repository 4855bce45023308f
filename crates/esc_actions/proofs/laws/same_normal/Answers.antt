use Rattle.esc_actions.proofs.Writing.NormalIsWritable.{same_normal, same_texts}
use Rattle.esc_actions.proofs.laws.same_normal.Goals as goal

pub returns : goal.returns
returns g c = λ vs ws h k. (same_normal c.reads_back.ensures vs ws h k, same_texts vs ws h k)
