use Rattle.esc_segments.proofs.Cutting.{items_are}
use Rattle.esc_segments.proofs.laws.items_are_the_cut.Goals as goal

pub returns : goal.returns
returns c = items_are
