use Rattle.std.proofs.Common.{◌-◌, length}
use Rattle.esc_frame.specs.Machine.Texts.{HasSpelled}
use Rattle.esc_frame.proofs.taker.EventSink.print_str.Given as goal

abbrev pub invariant-loop-at : goal.invariant-loop-at
invariant-loop-at g l =
    HasSpelled g.Self.EventSink.takes g.Self.EventSink.is_ready l.bytes l.at l.fn.self l.self

abbrev pub decreases-loop-at : goal.decreases-loop-at
decreases-loop-at g l = length l.bytes - l.at
