use Rattle.std.proofs.Common.{◌≡◌, true, false, Bool, not, [], ◌∷◌, ◌∙◌, refl, length, subst, sym}
use Rattle.std.specs.List.{FoldsTo}
use Rattle.esc_values.specs.Clear.{parts_of}
use Rattle.esc_frame.specs.Events.{Takes}
use Rattle.esc_frame.specs.Events.Event.{OscDispatch}
use Rattle.esc_frame.specs.Limits.{is_within}
use Rattle.esc_frame.specs.Machine.Calls.{Stops}
use Rattle.esc_frame.proofs.Emits.EventsFold.{takes_for}
use Rattle.esc_frame.proofs.Borrow.LentStrings.{osc_emitted, osc_unemitted}
use Rattle.esc_frame.proofs.machine.osc.emit_osc.Goals as goal

not_so : (t u : Bool) → not t ≡ u → t ≡ not u
not_so true u e = subst (λ v. true ≡ not v) e refl
not_so false u e = subst (λ v. false ≡ not v) e refl

pub returns-then-is_over-clause-emitted : goal.returns-then-is_over-clause-emitted
returns-then-is_over-clause-emitted g c = λ limit t k.
    let w = not_so (is_within limit (length t)) true
    (sym (c.is_over.ensures limit t k) ∙ c.if-is_over.true) in
    subst (λ es. FoldsTo g.V.EventSink.takes c.args.actor.now es c.args.actor.now)
    (osc_unemitted limit t w) refl

pub returns-else-is_over-clause-emitted : goal.returns-else-is_over-clause-emitted
returns-else-is_over-clause-emitted g c = λ limit t k.
    let w = not_so (is_within limit (length t)) false
    (sym (c.is_over.ensures limit t k) ∙ c.if-is_over.false) in
    let own : Type 0 = Stops g.V.EventSink.stops g.row.A.Denot limit in
    let kept = c.bytes.ensures.kept limit t k w in
    subst (λ es. Takes own g.V.EventSink.takes g.V.EventSink.refuses c.osc_text.result
    c.args.actor.now
    es c.osc_text.new.self)
    (osc_emitted limit t w)
    (subst (λ y. Takes own g.V.EventSink.takes g.V.EventSink.refuses c.osc_text.result
    c.args.actor.now
    (OscDispatch (parts_of y) ∷ []) c.osc_text.new.self) kept
    (takes_for _ _ g.V.EventSink.takes g.V.EventSink.refuses c.osc_text.result c.args.actor.now
    c.osc_text.new.self
    (OscDispatch (parts_of c.bytes.result.now) ∷ [])
    (λ y. (c.bytes.result.now, subst (λ x. is_within limit (length x) ≡ true) (sym kept) w, y.1))
    c.osc_text.ensures.emitted))
