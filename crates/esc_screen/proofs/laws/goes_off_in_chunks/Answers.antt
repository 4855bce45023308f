use Rattle.esc_screen.proofs.Scrolled.RowsScrolledOff.{off_in_chunks}
use Rattle.esc_screen.proofs.laws.goes_off_in_chunks.Goals as goal

pub returns : goal.returns
returns c = off_in_chunks
