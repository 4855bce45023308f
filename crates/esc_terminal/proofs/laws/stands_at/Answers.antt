use Rattle.esc_terminal.proofs.Streams.{stands_at}
use Rattle.esc_terminal.proofs.laws.stands_at.Goals as goal

pub returns : goal.returns
returns g c = stands_at _
