use Rattle.line_collapse.proofs.Bounds.{is_bounded}
use Rattle.line_collapse.proofs.laws.is_bounded.Goals as goal

pub returns : goal.returns
returns g c = is_bounded _
