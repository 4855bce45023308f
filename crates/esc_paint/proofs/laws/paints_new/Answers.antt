-- A new terminal is one that shows nothing.
use Rattle.esc_paint.proofs.Shown.{paints_new}
use Rattle.esc_paint.proofs.laws.paints_new.Goals as goal

pub returns : goal.returns
returns g c = paints_new _ c.paints.ensures
