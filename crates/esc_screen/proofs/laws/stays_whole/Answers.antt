use Rattle.esc_screen.proofs.Whole.GridsStayWhole.{stays_whole}
use Rattle.esc_screen.proofs.laws.stays_whole.Goals as goal

pub returns : goal.returns
returns c = stays_whole
