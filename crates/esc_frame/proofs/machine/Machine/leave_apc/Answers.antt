use Rattle.std.proofs.Common.{true}
use Rattle.esc_frame.specs.Segments.{apc_events}
use Rattle.esc_frame.specs.Machine.Moves.{ground_move}
use Rattle.esc_frame.proofs.Emits.EventsFold.{moves_then, stops_more, stops_for}
use Rattle.esc_frame.specs.Machine.Calls.{Fails}
use Rattle.esc_frame.proofs.Steps.FailureIsHandedOn.{error_of}
use Rattle.esc_frame.proofs.machine.Machine.leave_apc.Goals as goal

pub returns-clause-moved : goal.returns-clause-moved
returns-clause-moved g c = λ limit t k.
    moves_then g.K.TextRoom.keeps (Fails g.K.TextRoom.may_fail g.V.EventSink.stops g.row.A.Denot)
    limit true g.V.EventSink.takes g.V.EventSink.refuses
    c.in_ground.result (apc_events limit t) (ground_move c.args.b c.args.class)
    c.in_ground.new.self c.args.actor.now _ _ (c.in_ok-emit_apc.ensures.emitted limit t k)
    (c.in_ground.ensures.moved limit true)

pub returns-in_err-emit_apc-clause-moved : goal.returns-in_err-emit_apc-clause-moved
returns-in_err-emit_apc-clause-moved g c = λ limit t k.
    rw (error_of c.from_residual.result c.from_residual.ensures.0).1
    (stops_more _ g.V.EventSink.takes g.V.EventSink.refuses (apc_events limit t) _ c.args.actor.now
    _
    (stops_for ⊥ _ g.V.EventSink.takes g.V.EventSink.refuses (apc_events limit t) c.args.actor.now _
    (λ no. absurd no) (c.in_err-emit_apc.ensures.emitted limit t k)))
