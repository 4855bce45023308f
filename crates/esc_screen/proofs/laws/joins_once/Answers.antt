use Rattle.esc_screen.proofs.Printing.RowGoesOnOnce.{joins_once}
use Rattle.esc_screen.proofs.laws.joins_once.Goals as goal

pub returns : goal.returns
returns c = joins_once
