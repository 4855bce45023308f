use Rattle.std.proofs.Common.{◌≡◌, ◌||◌, true, refl, rules}
use Rattle.esc_frame.specs.declared.machine.State.TheVariants as state
use Rattle.esc_frame.specs.declared.utf8.sequence.Pending.TheVariants as pending
use Rattle.esc_frame.specs.Classes.{is_text, is_control, is_c1}
use Rattle.esc_frame.proofs.Steps.GroundMoves.{text_moved, control_moved}
use Rattle.esc_frame.specs.Machine.Calls.{Fails}
use Rattle.esc_frame.proofs.machine.Machine.in_ground.Goals as goal

pub returns-in-C0-clause-moved : goal.returns-in-C0-clause-moved
returns-in-C0-clause-moved g c = λ limit own.
    let t : (is_control c.args.class || is_c1 c.args.class) ≡ true =
    search (rules, c.in-C0.is) in
    control_moved g.K.TextRoom.keeps (Fails g.K.TextRoom.may_fail g.V.EventSink.stops g.row.A.Denot)
    limit own g.V.EventSink.takes g.V.EventSink.refuses
    c.execute_c0_or_c1.result c.args.b c.args.class
    (record c.args.self.now { state = state.Ground; pending = pending.Nothing }) c.args.actor.now
    c.execute_c0_or_c1.new.self (refl, refl) t
    c.execute_c0_or_c1.ensures.receives

pub returns-in-Intermediate-clause-moved : goal.returns-in-Intermediate-clause-moved
returns-in-Intermediate-clause-moved g c = λ limit own.
    let t : is_text c.args.class ≡ true = search (rules, c.in-Intermediate.is) in
    text_moved g.K.TextRoom.keeps (Fails g.K.TextRoom.may_fail g.V.EventSink.stops g.row.A.Denot)
    limit own g.V.EventSink.takes g.V.EventSink.refuses
    c.print-in-Intermediate.result c.args.b c.args.class
    (record c.args.self.now { state = state.Ground; pending = pending.Nothing }) c.args.actor.now
    c.print-in-Intermediate.new.self (refl, refl) t
    c.print-in-Intermediate.ensures.receives
