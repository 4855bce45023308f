use Rattle.std.proofs.Common.{map, take}
use Rattle.std.specs.List.{FoldsTo}
use Rattle.esc_actions.specs.Values.{datum, value_of}
use Rattle.esc_parse.specs.Given.{At}
use Rattle.esc_parse.proofs.performer.give_data.Given as goal

abbrev pub invariant-loop-byte : goal.invariant-loop-byte
invariant-loop-byte g l =
    (g.S.Sink.is_ready l.initial.sink → g.S.Sink.is_ready l.sink)
    × FoldsTo (At value_of g.S.Sink.takes) l.initial.sink
    (map datum (take l.byte-index l.bytes)) l.sink
