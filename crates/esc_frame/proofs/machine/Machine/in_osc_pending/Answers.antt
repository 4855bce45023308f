use Rattle.std.proofs.Common.{refl, inl}
use Rattle.esc_frame.proofs.Emits.EventsFold.{stops_here}
use Rattle.esc_frame.proofs.Steps.FailureIsHandedOn.{error_of}
use Rattle.esc_frame.proofs.machine.Machine.in_osc_pending.Goals as goal

pub returns-in_err-push-in-Broken-clause-moved : goal.returns-in_err-push-in-Broken-clause-moved
returns-in_err-push-in-Broken-clause-moved g c = λ e o ps f k j.
    rw (error_of c.from_residual.result c.from_residual.ensures.0).1
    (stops_here _ g.V.EventSink.takes g.V.EventSink.refuses _ c.args.actor.now
    (refl, inl c.in_err-push-in-Broken.ensures.refused))
