use Rattle.std.proofs.Common.{None}
use Rattle.esc_frame.proofs.Cut.CutExists.{events_of_the_cut}
use Rattle.esc_frame.proofs.laws.events_of_the_cut.Goals as goal

pub returns : goal.returns
returns c = events_of_the_cut None
