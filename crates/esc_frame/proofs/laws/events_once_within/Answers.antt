use Rattle.esc_frame.proofs.Cut.CutIsUnique.{events_once}
use Rattle.esc_frame.proofs.laws.events_once_within.Goals as goal

pub returns : goal.returns
returns c = events_once
