use Rattle.std.proofs.Common.{true, [], ◌∷◌, refl}
use Rattle.esc_frame.specs.Events.Event.{DcsUnhook}
use Rattle.esc_frame.specs.Machine.Moves.{ground_move}
use Rattle.esc_frame.proofs.Emits.EventsFold.{moves_then, refused_stops, stops_more}
use Rattle.esc_frame.specs.Machine.Calls.{Fails}
use Rattle.esc_frame.proofs.Steps.FailureIsHandedOn.{error_of}
use Rattle.esc_frame.proofs.machine.Machine.leave_data.Goals as goal

pub returns-clause-moved : goal.returns-clause-moved
returns-clause-moved g c =
    λ limit. moves_then g.K.TextRoom.keeps
    (Fails g.K.TextRoom.may_fail g.V.EventSink.stops g.row.A.Denot)
    limit true
    g.V.EventSink.takes g.V.EventSink.refuses c.in_ground.result (DcsUnhook ∷ [])
    (ground_move c.args.b c.args.class)
    c.in_ground.new.self
    c.args.actor.now _ _ (_, c.in_ok-dcs_unhook.ensures.receives, refl)
    (c.in_ground.ensures.moved limit true)

pub returns-in_err-dcs_unhook-clause-moved : goal.returns-in_err-dcs_unhook-clause-moved
returns-in_err-dcs_unhook-clause-moved g c = λ limit.
    rw (error_of c.from_residual.result c.from_residual.ensures.0).1
    (stops_more _ g.V.EventSink.takes g.V.EventSink.refuses (DcsUnhook ∷ [])
    _ c.args.actor.now _
    (refused_stops _ g.V.EventSink.takes g.V.EventSink.refuses c.args.actor.now _ (DcsUnhook)
    c.in_err-dcs_unhook.ensures.receives))
