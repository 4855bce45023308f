use Rattle.std.proofs.Common.{◌≡◌, ◌<◌, ℕ, true, false, List, [], ◌∷◌, ◌==◌, length, map}
use Rattle.std.proofs.Common.{Result, refl, ap, sym, ◌∙◌, subst, arith}
use Rattle.std.specs.List.{slice_split}
use Rattle.std.proofs.lemmas.Bool.Decides.{nat_tests}
use Rattle.esc_values.specs.Clear.{parts_of}
use Rattle.esc_frame.specs.Events.{Event, Receives, Takes}
use Rattle.esc_frame.specs.Events.Event.{OscDispatch}
use Rattle.esc_frame.specs.Limits.{has_few_parts}
use Rattle.fallible_alloc.specs.Refusals.{Refused}
use Rattle.esc_frame.proofs.Emits.EventsFold.{receives_takes, stops_here}
use Rattle.esc_frame.proofs.actor.VTActor.osc_text.Goals as goal

no_parts : (t : List ℕ) → (length t == 0) ≡ true → [] ≡ parts_of t
no_parts [] e = refl
no_parts (b ∷ t) e = absurd (grind (arith, nat_tests))

some_parts : (t : List ℕ) → (length t == 0) ≡ false → slice_split (λ c. c == 0x3b) t ≡ parts_of t
some_parts [] e = absurd cc
some_parts (b ∷ t) e = refl

not_few : (t : List ℕ) → (length t == 0) ≡ false → 16 < length (slice_split (λ c. c == 0x3b) t)
    → has_few_parts t ≡ true → ⊥
not_few t e many few =
    let same = ap length (some_parts t e) in absurd (grind (arith, nat_tests))

emitted : {S E : Type 0} (own : Type 0) (takes refuses : S → Event → S → Type 0)
    (result : Result (Unit {0}) E) (old new : S) (ps : List (List ℕ)) (t : List ℕ)
    → ps ≡ parts_of t → Receives takes refuses result old (OscDispatch ps) new
    → Takes own takes refuses result old (OscDispatch (parts_of t) ∷ []) new
emitted own takes refuses result old new ps t e h =
    subst (λ qs. Takes own takes refuses result old (OscDispatch qs ∷ []) new) e
    (receives_takes own takes refuses result old new (OscDispatch ps) h)

pub returns-then-is_empty-clause-emitted : goal.returns-then-is_empty-clause-emitted
returns-then-is_empty-clause-emitted g c =
    emitted (Refused g.row.A.Denot)
    g.Self.VTActor.takes g.Self.VTActor.refuses c.osc_dispatch.result c.args.self.now _
    [] c.args.text.now (no_parts c.args.text.now (sym c.is_empty.ensures ∙ c.if-is_empty.true))
    c.osc_dispatch.ensures.receives

pub returns-then-is_empty-clause-few : goal.returns-then-is_empty-clause-few
returns-then-is_empty-clause-few g c = λ few.
    emitted ⊥ g.Self.VTActor.takes g.Self.VTActor.refuses c.osc_dispatch.result c.args.self.now _
    [] c.args.text.now (no_parts c.args.text.now (sym c.is_empty.ensures ∙ c.if-is_empty.true))
    c.osc_dispatch.ensures.receives

pub returns-then-parts-gt0-clause-emitted : goal.returns-then-parts-gt0-clause-emitted
returns-then-parts-gt0-clause-emitted g c =
    emitted (Refused g.row.A.Denot)
    g.Self.VTActor.takes g.Self.VTActor.refuses c.osc_dispatch-then-parts-gt0.result
    c.args.self.now _ (map (λ p. p.now) c.as_slice.result.now) c.args.text.now
    (ap (map (λ p. p.now)) c.as_slice.ensures ∙ c.of-parts.ensures.shown c.if-parts-gt0.true
    ∙ some_parts c.args.text.now (sym c.is_empty.ensures ∙ c.if-is_empty.false))
    c.osc_dispatch-then-parts-gt0.ensures.receives

pub returns-then-parts-gt0-clause-few : goal.returns-then-parts-gt0-clause-few
returns-then-parts-gt0-clause-few g c = λ few.
    emitted ⊥ g.Self.VTActor.takes g.Self.VTActor.refuses c.osc_dispatch-then-parts-gt0.result
    c.args.self.now _ (map (λ p. p.now) c.as_slice.result.now) c.args.text.now
    (ap (map (λ p. p.now)) c.as_slice.ensures ∙ c.of-parts.ensures.shown c.if-parts-gt0.true
    ∙ some_parts c.args.text.now (sym c.is_empty.ensures ∙ c.if-is_empty.false))
    c.osc_dispatch-then-parts-gt0.ensures.receives

pub returns-in-Ok-clause-emitted : goal.returns-in-Ok-clause-emitted
returns-in-Ok-clause-emitted g c =
    emitted (Refused g.row.A.Denot)
    g.Self.VTActor.takes g.Self.VTActor.refuses c.osc_dispatch-in-Ok.result
    c.args.self.now _ (map (λ p. p.now) c.deref.result.now) c.args.text.now
    (ap (map (λ p. p.now)) c.deref.ensures.value ∙ c.in-Ok.ensures.ok)
    c.osc_dispatch-in-Ok.ensures.receives

pub returns-in-Ok-clause-few : goal.returns-in-Ok-clause-few
returns-in-Ok-clause-few g c = λ few.
    emitted ⊥ g.Self.VTActor.takes g.Self.VTActor.refuses c.osc_dispatch-in-Ok.result
    c.args.self.now _ (map (λ p. p.now) c.deref.result.now) c.args.text.now
    (ap (map (λ p. p.now)) c.deref.ensures.value ∙ c.in-Ok.ensures.ok)
    c.osc_dispatch-in-Ok.ensures.receives

pub returns-in-Err-clause-emitted : goal.returns-in-Err-clause-emitted
returns-in-Err-clause-emitted g c =
    stops_here (Refused g.row.A.Denot) g.Self.VTActor.takes g.Self.VTActor.refuses
    (OscDispatch (parts_of c.args.text.now) ∷ []) c.args.self.now c.in-Err.ensures.refused

pub returns-in-Err-clause-few : goal.returns-in-Err-clause-few
returns-in-Err-clause-few g c = λ few.
    absurd (not_few c.args.text.now (sym c.is_empty.ensures ∙ c.if-is_empty.false)
    (c.of-parts.ensures.many (omega arith)) few)
