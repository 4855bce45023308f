use Rattle.esc_actions.proofs.Values.ActionsHandedOut.{yield_handed}
use Rattle.esc_actions.proofs.laws.yield_handed_out.Goals as goal

pub returns : goal.returns
returns g c = λ limit s b. yield_handed _ c.handed_out.ensures limit s b
