use Rattle.esc_screen.proofs.Resizing.{resizes_whole}
use Rattle.esc_screen.proofs.laws.resizes_whole.Goals as goal

pub returns : goal.returns
returns c = resizes_whole
