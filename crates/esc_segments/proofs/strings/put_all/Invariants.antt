use Rattle.std.proofs.Common.{map, take}
use Rattle.std.specs.List.{FoldsTo}
use Rattle.esc_frame.specs.Classes.{is_put, bytes_of_class}
use Rattle.esc_frame.specs.Events.Event.{DcsPut}
use Rattle.esc_segments.proofs.strings.put_all.Given as goal

abbrev pub invariant-loop-b : goal.invariant-loop-b
invariant-loop-b g l =
    g.V.VTActor.is_ready l.actor
    × FoldsTo g.V.VTActor.takes l.initial.actor
    (map DcsPut (bytes_of_class is_put (take l.b-index l.content))) l.actor
