use Rattle.std.proofs.Common.{not, subst, inr}
use Rattle.esc_frame.specs.Classes.{class_of}
use Rattle.esc_frame.specs.Limits.{has_few_parts}
use Rattle.esc_frame.specs.Machine.Calls.{Moved, Fails}
use Rattle.esc_frame.specs.Machine.Moves.{pair_move}
use Rattle.esc_frame.specs.Segments.{osc_events}
use Rattle.esc_frame.proofs.Emits.EventsFold.{moves_then, stops_more, stops_for}
use Rattle.esc_frame.proofs.Steps.FailureIsHandedOn.{error_of}
use Rattle.esc_frame.proofs.machine.Machine.end_borrowed_by_pair.Goals as goal

pub returns-clause-moved : goal.returns-clause-moved
returns-clause-moved g c =
    moves_then g.K.TextRoom.keeps (Fails g.K.TextRoom.may_fail g.V.EventSink.stops g.row.A.Denot)
    c.args.self.now.limit (not (has_few_parts c.args.text.now))
    g.V.EventSink.takes g.V.EventSink.refuses c.c1_in_utf8.result
    (osc_events c.args.self.now.limit c.args.text.now)
    (pair_move c.args.b (class_of c.args.b)) c.c1_in_utf8.new.self c.args.actor.now _ _
    c.in_ok-emit_borrowed.ensures.emitted
    (subst (λ k. Moved g.K.TextRoom.keeps
    (Fails g.K.TextRoom.may_fail g.V.EventSink.stops g.row.A.Denot)
    c.args.self.now.limit
    (not (has_few_parts c.args.text.now)) g.V.EventSink.takes g.V.EventSink.refuses
    c.c1_in_utf8.result
    (pair_move c.args.b k) c.c1_in_utf8.new.self c.emit_borrowed.new.actor
    c.c1_in_utf8.new.actor)
    c.classify.ensures (c.c1_in_utf8.ensures.moved c.args.self.now.limit
    (not (has_few_parts c.args.text.now))))

pub returns-in_err-emit_borrowed-clause-moved : goal.returns-in_err-emit_borrowed-clause-moved
returns-in_err-emit_borrowed-clause-moved g c =
    rw (error_of c.from_residual.result c.from_residual.ensures.0).1
    (stops_more _ g.V.EventSink.takes g.V.EventSink.refuses
    (osc_events c.args.self.now.limit c.args.text.now)
    _ c.args.actor.now _
    (stops_for _ _ g.V.EventSink.takes g.V.EventSink.refuses
    (osc_events c.args.self.now.limit c.args.text.now)
    c.args.actor.now _
    (λ o. (o.0, inr o.1)) c.in_err-emit_borrowed.ensures.emitted))
