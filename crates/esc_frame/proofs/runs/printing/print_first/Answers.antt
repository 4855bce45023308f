use Rattle.esc_frame.proofs.ByteRuns.ManyBytes.{event_given, event_stops}
use Rattle.esc_frame.proofs.Emits.MayInGround.{may_one}
use Rattle.esc_frame.proofs.runs.printing.print_first.Goals as goal

pub returns-in-Ok-clause-stays : goal.returns-in-Ok-clause-stays
returns-in-Ok-clause-stays g c =
    let one = c.in-Some.ensures.prints in (
      c.in-Some.ensures.count.1,
      one.0,
      event_given g.V.EventSink.takes g.V.EventSink.refuses c.args.rest.now _ _ c.args.actor.now _
          one
          c.in-Ok.ensures.receives,
      c.in-Ok.ensures.ready,
    )

pub returns-in-Err-clause-stays : goal.returns-in-Err-clause-stays
returns-in-Err-clause-stays g c =
    event_stops g.V.EventSink.takes g.V.EventSink.refuses c.args.rest.now _ _ c.args.actor.now _
    (c.in-Some.ensures.prints) _ c.in-Err.ensures.receives

pub print-requires : goal.print-requires
print-requires g c =
    may_one g.V.EventSink.is_ready g.V.EventSink.may g.V.EventSink.takes c.args.rest.now _ _
    c.args.actor.now c.in-Some.ensures.prints c.requires
