use Rattle.esc_actions.proofs.Values.ActionsHandedOut.{handed_out}
use Rattle.esc_actions.proofs.laws.handed_out.Goals as goal

pub returns : goal.returns
returns g c = λ limit s. handed_out _ c.lower_laws.ensures limit s
