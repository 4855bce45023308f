use Rattle.std.proofs.Common.{rules, refl, true, ◌≡◌}
use Rattle.esc_frame.specs.declared.machine.State.TheVariants as state
use Rattle.esc_frame.specs.Classes.{in_body, is_breaker, without_noise}
use Rattle.esc_frame.specs.Leads.Unfinished.{InDcs}
use Rattle.esc_frame.proofs.Steps.StringsGrow.{dcs_pushed}
use Rattle.esc_frame.proofs.Steps.GroundMoves.{broken}
use Rattle.esc_frame.specs.Machine.Calls.{Fails}
use Rattle.esc_frame.proofs.machine.Machine.in_dcs.Goals as goal

pub returns-in-Breaks-clause-moved : goal.returns-in-Breaks-clause-moved
returns-in-Breaks-clause-moved g c = λ e o x k d.
    let t : is_breaker c.args.class ≡ true = search (rules, c.in-Breaks.is) in
    broken g.K.TextRoom.keeps (Fails g.K.TextRoom.may_fail g.V.EventSink.stops g.row.A.Denot)
    c.args.self.now.limit true g.V.EventSink.takes g.V.EventSink.refuses
    c.in_ground.result (InDcs o x) c.args.b c.args.class c.in_ground.new.self
    c.args.actor.now c.in_ground.new.actor t refl
    (c.in_ground.ensures.moved c.args.self.now.limit true)

pub returns-in-Intermediate-clause-moved : goal.returns-in-Intermediate-clause-moved
returns-in-Intermediate-clause-moved g c = λ e o x k d.
    let t : in_body c.args.class ≡ true = search (rules, c.in-Intermediate.is) in
    dcs_pushed g.K.TextRoom.keeps g.K.TextRoom.may_fail g.V.EventSink.stops c.args.self.now.limit
    g.V.EventSink.takes g.V.EventSink.refuses
    c.keep.result c.keep.ensures.refused
    (record c.args.self.now {
      state = state.Dcs;
      header = c.keep.new.header;
      text = c.keep.new.parameters;
    }) o c.args.b c.args.class
    c.args.actor.now e x t refl (c.keep.ensures.header (without_noise x) d)
    (c.keep.ensures.parameters (without_noise x) k)
