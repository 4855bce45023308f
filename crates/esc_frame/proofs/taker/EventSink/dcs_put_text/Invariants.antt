use Rattle.std.proofs.Common.{map, take}
use Rattle.std.specs.List.{FoldsTo}
use Rattle.esc_frame.specs.Events.Event.{DcsPut}
use Rattle.esc_frame.proofs.taker.EventSink.dcs_put_text.Given as goal

abbrev pub invariant-loop-b : goal.invariant-loop-b
invariant-loop-b g l = (g.Self.EventSink.is_ready l.initial.self → g.Self.EventSink.is_ready l.self)
    × FoldsTo g.Self.EventSink.takes l.initial.self (map DcsPut (take l.b-index l.bytes)) l.self
