use Rattle.screen_lines.proofs.Bounds.{are_bounded}
use Rattle.screen_lines.proofs.laws.are_bounded.Goals as goal

pub returns : goal.returns
returns c = are_bounded
