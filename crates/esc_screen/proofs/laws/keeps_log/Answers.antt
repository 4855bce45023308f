use Rattle.esc_screen.proofs.Scrolled.LogOfPlainText.{keeps_log}
use Rattle.esc_screen.proofs.laws.keeps_log.Goals as goal

pub returns : goal.returns
returns c = keeps_log
