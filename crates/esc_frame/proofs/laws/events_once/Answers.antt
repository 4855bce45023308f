use Rattle.std.proofs.Common.{None}
use Rattle.esc_frame.proofs.Cut.CutIsUnique.{events_once}
use Rattle.esc_frame.proofs.laws.events_once.Goals as goal

pub returns : goal.returns
returns c = events_once None
