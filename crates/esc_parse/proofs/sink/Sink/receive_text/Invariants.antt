use Rattle.std.proofs.Common.{map, take}
use Rattle.std.specs.List.{FoldsTo}
use Rattle.esc_parse.proofs.sink.Sink.receive_text.Given as goal

abbrev pub invariant-loop-b : goal.invariant-loop-b
invariant-loop-b g l =
    (g.Self.Sink.is_ready l.initial.self → g.Self.Sink.is_ready l.self)
    × FoldsTo g.Self.Sink.takes l.initial.self
    (map g.T.ActionShape.print (take l.b-index l.text)) l.self
