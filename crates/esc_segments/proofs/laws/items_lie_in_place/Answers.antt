use Rattle.esc_segments.proofs.Cutting.{items_lie}
use Rattle.esc_segments.proofs.laws.items_lie_in_place.Goals as goal

pub returns : goal.returns
returns c = items_lie c.has_cut.ensures
