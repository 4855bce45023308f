use Rattle.esc_device.proofs.Says.{enter_says}
use Rattle.esc_device.proofs.laws.enter_says.Goals as goal

pub returns : goal.returns
returns g c = λ e d h k. enter_says e d h k
