use Rattle.std.proofs.Common.{None}
use Rattle.esc_frame.proofs.Cut.CutAtGround.{ground_added}
use Rattle.esc_frame.proofs.laws.ground_added.Goals as goal

pub returns : goal.returns
returns c = ground_added None
