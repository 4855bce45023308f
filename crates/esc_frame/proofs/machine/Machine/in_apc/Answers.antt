use Rattle.std.proofs.Common.{rules, refl, true, ◌≡◌}
use Rattle.esc_frame.specs.declared.machine.State.TheVariants as state
use Rattle.esc_frame.specs.Classes.{is_breaker, is_text, bytes_of_class}
use Rattle.esc_frame.specs.Leads.Unfinished.{InApc}
use Rattle.esc_frame.proofs.Steps.StringsGrow.{apc_pushed}
use Rattle.esc_frame.proofs.Steps.GroundMoves.{broken_emitted}
use Rattle.esc_frame.specs.Machine.Calls.{Fails}
use Rattle.esc_frame.proofs.machine.Machine.in_apc.Goals as goal

pub returns-in-Breaks-clause-moved : goal.returns-in-Breaks-clause-moved
returns-in-Breaks-clause-moved g c = λ e o d k.
    let t : is_breaker c.args.class ≡ true = search (rules, c.in-Breaks.is) in
    broken_emitted g.K.TextRoom.keeps
    (Fails g.K.TextRoom.may_fail g.V.EventSink.stops g.row.A.Denot)
    c.args.self.now.limit true
    g.V.EventSink.takes g.V.EventSink.refuses c.leave_apc.result (InApc o d)
    c.args.b c.args.class c.leave_apc.new.self
    c.args.actor.now c.leave_apc.new.actor t
    (c.leave_apc.ensures.moved c.args.self.now.limit (bytes_of_class is_text d) k)

pub returns-in-Delete-clause-moved : goal.returns-in-Delete-clause-moved
returns-in-Delete-clause-moved g c = λ e o d k.
    let t : is_text c.args.class ≡ true = search (rules, c.in-Delete.is) in
    apc_pushed g.K.TextRoom.keeps g.K.TextRoom.may_fail g.V.EventSink.stops c.args.self.now.limit
    g.V.EventSink.takes g.V.EventSink.refuses
    c.push.result c.push.ensures.refused
    (record c.args.self.now { state = state.Apc; text = c.push.new.self }) o
    c.args.b c.args.class
    c.args.actor.now e d t refl (c.push.ensures.ok (bytes_of_class is_text d) k)
