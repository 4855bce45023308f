use Rattle.std.proofs.Common.{arith}
use Rattle.esc_frame.specs.Events.Event.{Print}
use Rattle.esc_frame.proofs.Emits.EventsFold.{each_next, each_stop}
use Rattle.esc_frame.proofs.Emits.MayAfterSome.{get_each}
use Rattle.esc_frame.proofs.Steps.FailureIsHandedOn.{error_of}
use Rattle.esc_frame.proofs.taker.EventSink.print_text.Goals as goal

pub returns-in_err-print : goal.returns-in_err-print
returns-in_err-print g c =
    let err = error_of c.from_residual.result c.from_residual.ensures.0 in rw err.1 (record {
      emitted = each_stop g.Self.EventSink.takes g.Self.EventSink.refuses Print c.args.text.now
          c.loop-b.b-index (omega arith) c.args.self.now _ _ c.loop-b.invariant.1 _
          c.in_err-print.ensures.receives;
      ready = λ r. tt;
    })

pub loop-b-preserved : goal.loop-b-preserved
loop-b-preserved g c = (
  (λ r. c.in_ok-print.ensures.ready (c.loop-b.invariant.0 r)),
  each_next g.Self.EventSink.takes g.Self.EventSink.refuses Print c.args.text.now c.loop-b.b-index
      (omega arith) c.args.self.now _ _ c.loop-b.invariant.1 c.in_ok-print.ensures.receives,
)

pub print-requires : goal.print-requires
print-requires g c =
    get_each g.Self.EventSink.is_ready g.Self.EventSink.may g.Self.EventSink.takes Print
    c.args.text.now
    c.loop-b.b-index (omega arith) c.args.self.now c.loop-b.self c.loop-b.invariant.0
    c.loop-b.invariant.1 c.requires.ready
