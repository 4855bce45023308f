use Rattle.std.proofs.Common.{arith}
use Rattle.std.proofs.lemmas.Bool.Decides.{nat_tests}
use Rattle.esc_frame.proofs.ByteRuns.ManyBytes.{one_text, event_given, event_stops}
use Rattle.esc_frame.proofs.Emits.MayInGround.{may_one}
use Rattle.esc_frame.proofs.runs.printing.print_ascii_byte.Goals as goal

pub returns-in-Ok : goal.returns-in-Ok
returns-in-Ok g c =
    let one = one_text c.args.rest.now (omega arith) (grind (arith, nat_tests)) in (
      c.requires.some,
      one.0,
      event_given g.V.EventSink.takes g.V.EventSink.refuses c.args.rest.now 1 _ c.args.actor.now _
          one
          c.in-Ok.ensures.receives,
      c.in-Ok.ensures.ready,
    )

pub returns-in-Err : goal.returns-in-Err
returns-in-Err g c =
    event_stops g.V.EventSink.takes g.V.EventSink.refuses c.args.rest.now 1 _ c.args.actor.now _
    (one_text c.args.rest.now (omega arith) (grind (
      arith,
      nat_tests,
    ))) _ c.in-Err.ensures.receives

pub print-requires : goal.print-requires
print-requires g c =
    may_one g.V.EventSink.is_ready g.V.EventSink.may g.V.EventSink.takes c.args.rest.now 1 _
    c.args.actor.now (one_text c.args.rest.now (omega arith) (grind (arith, nat_tests)))
    c.requires.ready
