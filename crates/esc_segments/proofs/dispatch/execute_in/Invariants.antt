use Rattle.std.proofs.Common.{map, take}
use Rattle.std.specs.List.{FoldsTo}
use Rattle.esc_frame.specs.Classes.{is_c0, bytes_of_class}
use Rattle.esc_frame.specs.Events.Event.{Execute}
use Rattle.esc_segments.proofs.dispatch.execute_in.Given as goal

abbrev pub invariant-loop-b : goal.invariant-loop-b
invariant-loop-b g l =
    g.V.VTActor.is_ready l.actor
    × FoldsTo g.V.VTActor.takes l.initial.actor
    (map Execute (bytes_of_class is_c0 (take l.b-index l.bytes))) l.actor
