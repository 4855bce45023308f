-- Events that are noted, one after another.
use Rattle.std.proofs.Common.{◌≡◌, Bool, false, List, [], ◌∷◌, ◌++◌, Result, ap, sym, ◌∙◌, subst, append_assoc}
use Rattle.std.proofs.lemmas.List.{append-nil}
use Rattle.std.specs.List.{FoldsTo}
use Rattle.esc_frame.specs.Events.{Event, Receives, Takes}
use Rattle.esc_frame.proofs.Emits.EventsFold.{receives_takes}

pub receives_both : {S E : Type 0} (own : Type 0) (takes refuses : S → Event → S → Type 0)
    (result : Result (Unit {0}) E) (old new : S) (e : Event)
    → Receives takes refuses result old e new → Takes own takes refuses result old (e ∷ []) new
receives_both own takes refuses result old new e h =
    receives_takes own takes refuses result old new e h

-- each event is added to the events so far, and a mark stays off
module _ {S : Type 0} (says : S → List Event) (mark : S → Bool) where
  abbrev pub Adds : S → Event → S → Type 0
  Adds p e q = (says q ≡ says p ++ e ∷ []) × (mark p ≡ false → mark q ≡ false)

  pub all_said : (es : List Event) (old new : S) → FoldsTo Adds old es new
      → (says new ≡ says old ++ es) × (mark old ≡ false → mark new ≡ false)
  all_said [] old new e =
      (ap says (sym e) ∙ sym (append-nil (says old)), λ h. subst (λ s. mark s ≡ false) e h)
  all_said (x ∷ es) old new (j, a, r) =
      let q = all_said es j new r in
      (q.0 ∙ ap (λ y. y ++ es) a.0 ∙ append_assoc (says old) (x ∷ []) es, λ h. q.1 (a.1 h))
