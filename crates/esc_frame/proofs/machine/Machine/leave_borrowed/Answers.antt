use Rattle.std.proofs.Common.{refl, subst, sym}
use Rattle.esc_frame.specs.Machine.Calls.{Moved, Fails}
use Rattle.esc_frame.specs.Machine.Makes.{MayEmit}
use Rattle.esc_frame.proofs.Borrow.LentStrings.{left_bell, left_other}
use Rattle.esc_frame.proofs.machine.Machine.leave_borrowed.Goals as goal

pub returns-else-b-eq7-clause-moved : goal.returns-else-b-eq7-clause-moved
returns-else-b-eq7-clause-moved g c = λ limit own.
    subst (λ m. Moved g.K.TextRoom.keeps
    (Fails g.K.TextRoom.may_fail g.V.EventSink.stops g.row.A.Denot)
    limit own
    g.V.EventSink.takes g.V.EventSink.refuses c.leave_string.result m c.leave_string.new.self
    c.args.actor.now c.leave_string.new.actor)
    (left_other c.args.b c.if-b-eq7.false)
    (c.leave_string.ensures.moved limit own)

pub returns-then-b-eq7-clause-moved : goal.returns-then-b-eq7-clause-moved
returns-then-b-eq7-clause-moved g c = λ limit own.
    rw (left_bell c.args.b c.if-b-eq7.true) ((refl, refl), refl)

pub leave_string-requires : goal.leave_string-requires
leave_string-requires g c =
    subst (λ m. MayEmit g.V.EventSink m.1 c.args.actor.now)
    (sym (left_other c.args.b c.if-b-eq7.false))
    c.requires
