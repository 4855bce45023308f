use Rattle.esc_screen.proofs.Scrolled.RowsScrolledOff.{in_parts}
use Rattle.esc_screen.proofs.laws.is_in_parts.Goals as goal

pub returns : goal.returns
returns c = in_parts
