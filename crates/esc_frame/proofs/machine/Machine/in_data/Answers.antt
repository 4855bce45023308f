use Rattle.std.proofs.Common.{◌≡◌, true, rules}
use Rattle.esc_frame.specs.Classes.{is_breaker}
use Rattle.esc_frame.specs.Leads.Unfinished.{InData}
use Rattle.esc_frame.proofs.Steps.GroundMoves.{broken_emitted}
use Rattle.esc_frame.specs.Machine.Calls.{Fails}
use Rattle.esc_frame.proofs.machine.Machine.in_data.Goals as goal

pub returns-in-Breaks-clause-moved : goal.returns-in-Breaks-clause-moved
returns-in-Breaks-clause-moved g c = λ limit o x f d r.
    let t : is_breaker c.args.class ≡ true = search (rules, c.in-Breaks.is) in
    broken_emitted g.K.TextRoom.keeps
    (Fails g.K.TextRoom.may_fail g.V.EventSink.stops g.row.A.Denot)
    limit true g.V.EventSink.takes g.V.EventSink.refuses
    c.leave_data.result (InData o x f d) c.args.b c.args.class c.leave_data.new.self
    c.args.actor.now c.leave_data.new.actor t (rw r (c.leave_data.ensures.moved limit))
