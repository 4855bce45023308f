use Rattle.std.proofs.Common.{arith}
use Rattle.esc_frame.proofs.ByteRuns.ManyBytes.{character_does, event_given, event_stops}
use Rattle.esc_frame.proofs.Emits.MayInGround.{may_one}
use Rattle.esc_frame.proofs.runs.printing.print_ahead.Goals as goal

pub returns-in-Ok : goal.returns-in-Ok
returns-in-Ok g c =
    let one = character_does _ _ (c.requires.ahead (omega arith)).1 in (
      (c.requires.ahead (omega arith)).0,
      one.0,
      event_given g.V.EventSink.takes g.V.EventSink.refuses c.args.rest.now c.args.n _
          c.args.actor.now _
          one
          c.in-Ok.ensures.receives,
      c.in-Ok.ensures.ready,
    )

pub returns-in-Err : goal.returns-in-Err
returns-in-Err g c =
    event_stops g.V.EventSink.takes g.V.EventSink.refuses c.args.rest.now c.args.n _
    c.args.actor.now _
    (character_does _ _ (c.requires.ahead (omega arith)).1)
    _ c.in-Err.ensures.receives

pub print-requires : goal.print-requires
print-requires g c =
    may_one g.V.EventSink.is_ready g.V.EventSink.may g.V.EventSink.takes c.args.rest.now c.args.n _
    c.args.actor.now (character_does _ _ (c.requires.ahead (omega arith)).1) c.requires.ready
