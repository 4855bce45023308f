-- A sink that keeps actions, but of data the first byte alone.
use Rattle.std.proofs.Common.{◌≡◌, Bool, true, false, ◌&&◌, ◌||◌, if◌then◌else◌, List, [], ◌∷◌, ◌++◌, map, refl, ap, sym, ◌∙◌, subst, append-nil, append_assoc}
use Rattle.std.specs.List.{FoldsTo}
use Rattle.std.proofs.lemmas.List.{map-append}
use Rattle.esc_actions.specs.Values.{Value, value_of}
use Rattle.esc_actions.specs.Writable.{EmittedAreWritable, IsHandedOut}
use Rattle.esc_actions.specs.declared.action.Action.{Action}
use Rattle.esc_parse.specs.Given.{At}
use Rattle.esc_account.specs.Brief.{brief_after, is_datum}
use Rattle.esc_account.specs.Briefs.{Keeps, TookHandedOut}
use Rattle.esc_account.specs.declared.brief.Brief.{Brief}

module _ {A : Type 0} where
  abbrev Kept : Bool → Bool → Action A → List (Action A)
  Kept came d a = if came && d then [] else a ∷ []

  one_more : (came d : Bool) (a : Action A) (vs : List (Value A))
      → map value_of (Kept came d a) ++ brief_after (came || d) vs
      ≡ (if came && d then brief_after true vs else value_of a ∷ brief_after (came || d) vs)
  one_more true true a vs = refl
  one_more true false a vs = refl
  one_more false true a vs = refl
  one_more false false a vs = refl

  pub keeps : (vs : List (Value A)) (p q : Brief A) → FoldsTo (At value_of Keeps) p vs q
      → map value_of q.actions.items
      ≡ map value_of p.actions.items ++ brief_after p.has_datum vs
  keeps [] p q e =
      ap (λ x. map value_of x.actions.items) (sym e)
      ∙ sym (append-nil (map value_of p.actions.items))
  keeps (v ∷ vs) p q (j, (a, is, t), rest) =
      let had = map value_of p.actions.items in
      let kept = Kept p.has_datum (is_datum (value_of a)) a in
      subst (λ x. map value_of q.actions.items ≡ had ++ brief_after p.has_datum (x ∷ vs)) is
      (keeps vs j q rest
      ∙ ap (λ x. map value_of x ++ brief_after j.has_datum vs) t.0
      ∙ ap (λ x. map value_of (p.actions.items ++ kept) ++ brief_after x vs) t.1
      ∙ ap (λ x. x ++ brief_after (p.has_datum || is_datum (value_of a)) vs)
      (map-append value_of p.actions.items kept)
      ∙ append_assoc had (map value_of kept)
      (brief_after (p.has_datum || is_datum (value_of a)) vs)
      ∙ ap (λ x. had ++ x) (one_more p.has_datum (is_datum (value_of a)) a vs))

  one_kept : (t : Bool) (v : Value A) (kept more : List (Value A)) → IsHandedOut v
      → EmittedAreWritable kept → EmittedAreWritable more
      → EmittedAreWritable (if t then kept else v ∷ more)
  one_kept true v kept more one k m = k
  one_kept false v kept more one k m = (one, m)

  few_handed_out : (came : Bool) (vs : List (Value A)) → EmittedAreWritable vs
      → EmittedAreWritable (brief_after came vs)
  few_handed_out came [] h = tt
  few_handed_out came (v ∷ vs) h =
      one_kept (came && is_datum v) v (brief_after true vs) (brief_after (came || is_datum v) vs)
      h.0 (few_handed_out true vs h.1) (few_handed_out (came || is_datum v) vs h.1)

  -- a brief keeps of all actions those that a parser hands out
  pub keeps_handed_out : (p q : Brief A) → p.actions.items ≡ [] → p.has_datum ≡ false
      → TookHandedOut Keeps p q → EmittedAreWritable (map value_of q.actions.items)
  keeps_handed_out p q none yet (vs, handed, took) =
      subst EmittedAreWritable (sym (keeps vs p q took
      ∙ ap (λ l. map value_of l ++ brief_after p.has_datum vs) none
      ∙ ap (λ b. brief_after b vs) yet)) (few_handed_out false vs handed)
