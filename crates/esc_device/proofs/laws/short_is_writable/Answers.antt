use Rattle.esc_device.proofs.Hooks.{short_is_writable}
use Rattle.esc_device.proofs.laws.short_is_writable.Goals as goal

pub returns : goal.returns
returns g c = λ f ps is more d h k p w. short_is_writable g.row.A.Denot f ps is more d h k p w
