use Rattle.std.proofs.Common.{◌-◌, length}
use Rattle.esc_frame.specs.Machine.Calls.{Ran}
use Rattle.esc_frame.proofs.runs.printing.print_glyphs.Given as goal

abbrev pub invariant-loop-at : goal.invariant-loop-at
invariant-loop-at g l = Ran g.V.EventSink.takes g.V.EventSink.is_ready l.rest l.at l.initial.actor
    l.actor

abbrev pub decreases-loop-at : goal.decreases-loop-at
decreases-loop-at g l = length l.rest - l.at
