use Rattle.esc_terminal.proofs.Streams.{goes_on}
use Rattle.esc_terminal.proofs.laws.goes_on.Goals as goal

pub returns : goal.returns
returns g c = goes_on _
