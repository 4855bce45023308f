use Rattle.esc_device.proofs.Hooks.{params_are_natural}
use Rattle.esc_device.proofs.laws.params_are_natural.Goals as goal

pub returns : goal.returns
returns c = λ f ps is more h. params_are_natural f ps is more h
