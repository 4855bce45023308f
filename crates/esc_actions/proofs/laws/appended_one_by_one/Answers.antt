use Rattle.esc_actions.proofs.Lists.AppendedOneByOne.{one_by_one}
use Rattle.esc_actions.proofs.laws.appended_one_by_one.Goals as goal

pub returns : goal.returns
returns g c = λ vs. one_by_one vs
