use Rattle.esc_frame.specs.Classes.{class_of}
use Rattle.esc_frame.specs.Machine.Moves.{ground_move}
use Rattle.esc_frame.specs.Segments.{apc_events}
use Rattle.esc_frame.proofs.Emits.EventsFold.{moves_then, stops_more, stops_for}
use Rattle.esc_frame.specs.Machine.Calls.{Fails}
use Rattle.esc_frame.proofs.Steps.FailureIsHandedOn.{error_of}
use Rattle.esc_frame.proofs.machine.Machine.end_borrowed_apc.Goals as goal

pub returns-clause-moved : goal.returns-clause-moved
returns-clause-moved g c = λ own.
    moves_then g.K.TextRoom.keeps (Fails g.K.TextRoom.may_fail g.V.EventSink.stops g.row.A.Denot)
    c.args.self.now.limit own
    g.V.EventSink.takes g.V.EventSink.refuses c.leave_string.result
    (apc_events c.args.self.now.limit c.args.text.now)
    (ground_move c.args.b (class_of c.args.b))
    c.leave_string.new.self c.args.actor.now _ _ c.in_ok-emit_borrowed_apc.ensures.emitted
    (c.leave_string.ensures.moved c.args.self.now.limit own)

pub returns-in_err-emit_borrowed_apc-clause-moved
    : goal.returns-in_err-emit_borrowed_apc-clause-moved
returns-in_err-emit_borrowed_apc-clause-moved g c = λ own.
    rw (error_of c.from_residual.result c.from_residual.ensures.0).1
    (stops_more _ g.V.EventSink.takes g.V.EventSink.refuses
    (apc_events c.args.self.now.limit c.args.text.now)
    _ c.args.actor.now _
    (stops_for ⊥ _ g.V.EventSink.takes g.V.EventSink.refuses
    (apc_events c.args.self.now.limit c.args.text.now)
    c.args.actor.now _
    (λ no. absurd no) c.in_err-emit_borrowed_apc.ensures.emitted))
