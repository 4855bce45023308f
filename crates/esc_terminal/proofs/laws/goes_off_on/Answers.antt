use Rattle.esc_terminal.proofs.Stepping.{goes_off_on}
use Rattle.esc_terminal.proofs.laws.goes_off_on.Goals as goal

pub returns : goal.returns
returns g c = goes_off_on _
