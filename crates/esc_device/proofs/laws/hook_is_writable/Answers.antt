use Rattle.esc_device.proofs.Hooks.{hook_is_writable}
use Rattle.esc_device.proofs.laws.hook_is_writable.Goals as goal

pub returns : goal.returns
returns g c = λ f ps is more h k w. hook_is_writable g.row.A.Denot f ps is more h k w
