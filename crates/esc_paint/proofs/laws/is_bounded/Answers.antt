-- By the number of its parts.
use Rattle.esc_paint.proofs.Bounds.{is_bounded}
use Rattle.esc_paint.proofs.laws.is_bounded.Goals as goal

pub returns : goal.returns
returns c = is_bounded
