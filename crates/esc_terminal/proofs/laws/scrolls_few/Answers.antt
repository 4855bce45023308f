use Rattle.esc_terminal.proofs.Bounds.{scrolls_few}
use Rattle.esc_terminal.proofs.laws.scrolls_few.Goals as goal

pub returns : goal.returns
returns g c = scrolls_few _
