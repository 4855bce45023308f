use Rattle.esc_frame.proofs.ByteRuns.ManyBytes.{one_control, event_given, event_stops}
use Rattle.esc_frame.proofs.Emits.MayInGround.{may_one}
use Rattle.esc_frame.proofs.runs.printing.execute_one.Goals as goal

pub returns-in-Ok : goal.returns-in-Ok
returns-in-Ok g c =
    let k = c.requires.control in
    let one = one_control c.args.rest.now k.some k.low k.other in (
      k.some,
      one.0,
      event_given g.V.EventSink.takes g.V.EventSink.refuses c.args.rest.now 1 _ c.args.actor.now _
          one
          c.in-Ok.ensures.receives,
      c.in-Ok.ensures.ready,
    )

pub returns-in-Err : goal.returns-in-Err
returns-in-Err g c =
    let k = c.requires.control in
    event_stops g.V.EventSink.takes g.V.EventSink.refuses c.args.rest.now 1 _ c.args.actor.now _
    (one_control c.args.rest.now k.some k.low k.other) _ c.in-Err.ensures.receives

pub execute_c0_or_c1-requires : goal.execute_c0_or_c1-requires
execute_c0_or_c1-requires g c =
    let k = c.requires.control in
    may_one g.V.EventSink.is_ready g.V.EventSink.may g.V.EventSink.takes c.args.rest.now 1 _
    c.args.actor.now (one_control c.args.rest.now k.some k.low k.other) c.requires.ready
