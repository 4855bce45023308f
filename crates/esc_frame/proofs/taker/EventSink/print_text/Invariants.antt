use Rattle.std.proofs.Common.{map, take}
use Rattle.std.specs.List.{FoldsTo}
use Rattle.esc_frame.specs.Events.Event.{Print}
use Rattle.esc_frame.proofs.taker.EventSink.print_text.Given as goal

abbrev pub invariant-loop-b : goal.invariant-loop-b
invariant-loop-b g l = (g.Self.EventSink.is_ready l.initial.self → g.Self.EventSink.is_ready l.self)
    × FoldsTo g.Self.EventSink.takes l.initial.self (map Print (take l.b-index l.text)) l.self
