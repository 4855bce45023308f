use Rattle.esc_device.proofs.Says.{short_says}
use Rattle.esc_device.proofs.laws.short_says.Goals as goal

pub returns : goal.returns
returns g c = λ s h. short_says s h
