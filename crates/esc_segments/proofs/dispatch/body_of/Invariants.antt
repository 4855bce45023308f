use Rattle.std.proofs.Common.{take}
use Rattle.esc_frame.specs.Classes.{without_noise}
use Rattle.esc_frame.specs.Machine.Keeps.{KeepsBody}
use Rattle.esc_segments.proofs.dispatch.body_of.Given as goal

abbrev pub invariant-loop-b : goal.invariant-loop-b
invariant-loop-b l = KeepsBody l.body (without_noise (take l.b-index l.x))
