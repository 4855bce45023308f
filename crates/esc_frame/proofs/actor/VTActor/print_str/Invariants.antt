use Rattle.std.proofs.Common.{◌-◌, length}
use Rattle.esc_frame.specs.Machine.Texts.{HasSpelled}
use Rattle.esc_frame.proofs.actor.VTActor.print_str.Given as goal

abbrev pub invariant-loop-at : goal.invariant-loop-at
invariant-loop-at g l =
    HasSpelled g.Self.VTActor.takes g.Self.VTActor.is_ready l.bytes l.at l.fn.self l.self

abbrev pub decreases-loop-at : goal.decreases-loop-at
decreases-loop-at g l = length l.bytes - l.at
