use Rattle.esc_screen.proofs.Whole.GridsStayWhole.{begins_whole}
use Rattle.esc_screen.proofs.laws.begins_whole.Goals as goal

pub returns : goal.returns
returns c = begins_whole
