use Rattle.std.proofs.Common.{arith}
use Rattle.esc_frame.specs.Events.Event.{Print}
use Rattle.esc_frame.proofs.Emits.EventsFold.{each_next, each_stop}
use Rattle.esc_frame.proofs.Emits.MayAfterSome.{get_each}
use Rattle.esc_frame.proofs.Steps.FailureIsHandedOn.{error_of}
use Rattle.esc_frame.proofs.actor.VTActor.print_text.Goals as goal

pub returns-in_err-print-clause-emitted : goal.returns-in_err-print-clause-emitted
returns-in_err-print-clause-emitted g c =
    rw (error_of c.from_residual.result c.from_residual.ensures.0).1
    (each_stop g.Self.VTActor.takes g.Self.VTActor.refuses Print c.args.text.now c.loop-b.b-index
    (omega arith) c.args.self.now _ _ c.loop-b.invariant.1 _ c.in_err-print.ensures.receives)

pub loop-b-preserved : goal.loop-b-preserved
loop-b-preserved g c = (
  (λ r. c.in_ok-print.ensures.ready (c.loop-b.invariant.0 r)),
  each_next g.Self.VTActor.takes g.Self.VTActor.refuses Print c.args.text.now c.loop-b.b-index
      (omega arith) c.args.self.now _ _ c.loop-b.invariant.1 c.in_ok-print.ensures.receives,
)

pub print-requires : goal.print-requires
print-requires g c =
    get_each g.Self.VTActor.is_ready g.Self.VTActor.may g.Self.VTActor.takes Print c.args.text.now
    c.loop-b.b-index (omega arith) c.args.self.now c.loop-b.self c.loop-b.invariant.0
    c.loop-b.invariant.1 c.requires.ready
