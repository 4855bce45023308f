use Rattle.esc_frame.specs.Classes.{class_of}
use Rattle.std.proofs.Common.{not, inr}
use Rattle.esc_frame.specs.Limits.{has_few_parts}
use Rattle.esc_frame.specs.Machine.Moves.{osc_left}
use Rattle.esc_frame.specs.Segments.{osc_events}
use Rattle.esc_frame.proofs.Emits.EventsFold.{moves_then, stops_more, stops_for}
use Rattle.esc_frame.specs.Machine.Calls.{Fails}
use Rattle.esc_frame.proofs.Steps.FailureIsHandedOn.{error_of}
use Rattle.esc_frame.proofs.machine.Machine.end_borrowed.Goals as goal

pub returns-clause-moved : goal.returns-clause-moved
returns-clause-moved g c =
    moves_then g.K.TextRoom.keeps (Fails g.K.TextRoom.may_fail g.V.EventSink.stops g.row.A.Denot)
    c.args.self.now.limit (not (has_few_parts c.args.text.now))
    g.V.EventSink.takes g.V.EventSink.refuses c.leave_borrowed.result
    (osc_events c.args.self.now.limit c.args.text.now)
    (osc_left c.args.b (class_of c.args.b)) c.leave_borrowed.new.self c.args.actor.now _ _
    c.in_ok-emit_borrowed.ensures.emitted
    (c.leave_borrowed.ensures.moved c.args.self.now.limit
    (not (has_few_parts c.args.text.now)))

pub returns-in_err-emit_borrowed-clause-moved : goal.returns-in_err-emit_borrowed-clause-moved
returns-in_err-emit_borrowed-clause-moved g c =
    rw (error_of c.from_residual.result c.from_residual.ensures.0).1
    (stops_more _ g.V.EventSink.takes g.V.EventSink.refuses
    (osc_events c.args.self.now.limit c.args.text.now)
    _ c.args.actor.now _
    (stops_for _ _ g.V.EventSink.takes g.V.EventSink.refuses
    (osc_events c.args.self.now.limit c.args.text.now)
    c.args.actor.now _
    (λ o. (o.0, inr o.1)) c.in_err-emit_borrowed.ensures.emitted))
