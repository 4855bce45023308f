use Rattle.esc_idempotent.proofs.Tints.{tints_close}
use Rattle.esc_idempotent.proofs.colors_close.Goals as goal

pub returns : goal.returns
returns g c = λ f most resets. tints_close f most resets
