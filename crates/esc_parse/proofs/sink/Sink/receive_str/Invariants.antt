use Rattle.std.proofs.Common.{IsUtf8}
use Rattle.std.specs.Str.Iter.{chars_rest}
use Rattle.esc_parse.proofs.Runs.RunsOfText.{HasTaken}
use Rattle.esc_parse.proofs.sink.Sink.receive_str.Given as goal

abbrev pub invariant-loop-c : goal.invariant-loop-c
invariant-loop-c g l =
    (g.Self.Sink.is_ready l.initial.self → g.Self.Sink.is_ready l.self) × IsUtf8
    (chars_rest l.c-iterator)
    × HasTaken g.T.ActionShape.print g.Self.Sink.takes l.fn.text
    (chars_rest l.c-iterator) l.initial.self l.self
