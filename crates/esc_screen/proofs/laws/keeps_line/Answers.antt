use Rattle.esc_screen.proofs.Resizing.{keeps_line}
use Rattle.esc_screen.proofs.laws.keeps_line.Goals as goal

pub returns : goal.returns
returns c = keeps_line
