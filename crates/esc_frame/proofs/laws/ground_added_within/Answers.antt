use Rattle.esc_frame.proofs.Cut.CutAtGround.{ground_added}
use Rattle.esc_frame.proofs.laws.ground_added_within.Goals as goal

pub returns : goal.returns
returns c = ground_added
