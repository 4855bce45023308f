use Rattle.esc_filter.proofs.GivingBack.GivingBackRestores.{at_start}
use Rattle.esc_filter.proofs.laws.terminal_as_at_the_start.Goals as goal

pub returns : goal.returns
returns g c = λ admits vs. at_start _ admits vs
