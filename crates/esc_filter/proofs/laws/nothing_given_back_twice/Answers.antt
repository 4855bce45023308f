use Rattle.esc_filter.proofs.GivingBack.GivingBackRestores.{nothing_twice}
use Rattle.esc_filter.proofs.laws.nothing_given_back_twice.Goals as goal

pub returns : goal.returns
returns g c = λ admits vs. nothing_twice _ admits vs
