use Rattle.esc_screen.proofs.Scrolled.RowsScrolledOff.{loses_nothing}
use Rattle.esc_screen.proofs.laws.loses_nothing.Goals as goal

pub returns : goal.returns
returns c = loses_nothing
