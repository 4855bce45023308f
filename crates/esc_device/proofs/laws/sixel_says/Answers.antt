use Rattle.esc_device.proofs.Says.{sixel_says}
use Rattle.esc_device.proofs.laws.sixel_says.Goals as goal

pub returns : goal.returns
returns g c = λ s h. sixel_says s h
