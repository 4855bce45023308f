use Rattle.esc_frame.specs.Segments.Opener.{Long}
use Rattle.std.proofs.Common.{inl, inr, ◌≡◌, true, ◌++◌, ◌∷◌, [], refl, subst, rules}
use Rattle.esc_frame.specs.Classes.{is_breaker}
use Rattle.esc_frame.specs.declared.machine.State.TheVariants as state
use Rattle.esc_frame.specs.Events.Event.{Execute}
use Rattle.esc_frame.specs.Leads.Unfinished.{InEscape}
use Rattle.esc_frame.specs.Machine.Keeps.{Keeps}
use Rattle.esc_frame.proofs.Cut.OneByteMore.{noise_strip}
use Rattle.esc_frame.proofs.Emits.EventsFold.{receives_moved}
use Rattle.esc_frame.proofs.Steps.GroundMoves.{broken}
use Rattle.esc_frame.specs.Machine.Calls.{Fails}
use Rattle.esc_frame.proofs.machine.Machine.in_escape.Goals as goal

pub returns-in-Breaks-clause-moved : goal.returns-in-Breaks-clause-moved
returns-in-Breaks-clause-moved g c = λ e limit own x k.
    let t : is_breaker c.args.class ≡ true = search (rules, c.in-Breaks.is) in
    broken g.K.TextRoom.keeps (Fails g.K.TextRoom.may_fail g.V.EventSink.stops g.row.A.Denot)
    limit own g.V.EventSink.takes g.V.EventSink.refuses
    c.in_ground.result (InEscape x) c.args.b c.args.class c.in_ground.new.self
    c.args.actor.now c.in_ground.new.actor t refl (c.in_ground.ensures.moved limit own)

pub returns-in-C0-clause-moved : goal.returns-in-C0-clause-moved
returns-in-C0-clause-moved g c = λ e limit own x k. elim c.in-C0.is [
  | inl i ↦ rw i
      (receives_moved g.K.TextRoom.keeps
      (Fails g.K.TextRoom.may_fail g.V.EventSink.stops g.row.A.Denot)
      limit _
      g.V.EventSink.takes g.V.EventSink.refuses c.execute_c0_or_c1.result
      (InEscape (x ++ c.args.b ∷ []))
      (Execute c.args.b)
      (record c.args.self.now { state = state.Escape }) c.args.actor.now _ (
        refl,
        subst (Keeps c.args.self.now.intermediates) (noise_strip x c.args.b _ _ e
            i refl) k,
      )
      c.execute_c0_or_c1.ensures.receives)
  | inr i ↦ rw i
      (receives_moved g.K.TextRoom.keeps
      (Fails g.K.TextRoom.may_fail g.V.EventSink.stops g.row.A.Denot)
      limit _
      g.V.EventSink.takes g.V.EventSink.refuses c.execute_c0_or_c1.result
      (InEscape (x ++ c.args.b ∷ []))
      (Execute c.args.b)
      (record c.args.self.now { state = state.Escape }) c.args.actor.now _ (
        refl,
        subst (Keeps c.args.self.now.intermediates) (noise_strip x c.args.b _ _ e
            i refl) k,
      )
      c.execute_c0_or_c1.ensures.receives)
]

pub returns-then-self-eq0-clause-moved : goal.returns-then-self-eq0-clause-moved
returns-then-self-eq0-clause-moved g c = λ e limit own x k. let h = c.open.ensures.holds limit
    (Long x) in
    search (rules, h)
