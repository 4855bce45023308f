use Rattle.std.proofs.Common.{rules, refl, true, ◌≡◌}
use Rattle.esc_frame.specs.declared.machine.State.TheVariants as state
use Rattle.esc_frame.specs.declared.utf8.sequence.Pending.TheVariants as pending
use Rattle.esc_frame.specs.Classes.{is_breaker, is_text}
use Rattle.esc_frame.specs.Leads.Unfinished.{InOsc}
use Rattle.esc_frame.specs.Segments.{text_of}
use Rattle.esc_frame.proofs.Steps.StringsGrow.{osc_pushed}
use Rattle.esc_frame.proofs.Steps.GroundMoves.{broken_emitted}
use Rattle.esc_frame.specs.Machine.Calls.{Fails}
use Rattle.esc_frame.proofs.machine.Machine.in_osc.Goals as goal

pub returns-in-Breaks-clause-moved : goal.returns-in-Breaks-clause-moved
returns-in-Breaks-clause-moved g c = λ e o ps k.
    let t : is_breaker c.args.class ≡ true = search (rules, c.in-Breaks.is) in
    broken_emitted g.K.TextRoom.keeps
    (Fails g.K.TextRoom.may_fail g.V.EventSink.stops g.row.A.Denot)
    c.args.self.now.limit true
    g.V.EventSink.takes g.V.EventSink.refuses c.leave_osc.result (InOsc o ps)
    c.args.b c.args.class c.leave_osc.new.self
    c.args.actor.now c.leave_osc.new.actor t (c.leave_osc.ensures.moved c.args.self.now.limit
    (text_of ps) k)

pub returns-in-Intermediate-clause-moved : goal.returns-in-Intermediate-clause-moved
returns-in-Intermediate-clause-moved g c = λ e o ps k.
    let t : is_text c.args.class ≡ true = search (rules, c.in-Intermediate.is) in
    osc_pushed g.K.TextRoom.keeps g.K.TextRoom.may_fail g.V.EventSink.stops c.args.self.now.limit
    g.V.EventSink.takes g.V.EventSink.refuses
    c.push.result c.push.ensures.refused
    (record c.args.self.now {
      state = state.Osc;
      pending = pending.Nothing;
      text = c.push.new.self;
    }) o c.args.b c.args.class c.args.actor.now e ps t refl
    refl (c.push.ensures.ok (text_of ps) k)
