-- A prompt that is read from clear parts is writable.
use Rattle.std.proofs.Common.{ℕ, ℤ, pos, ◌≡◌, ◌==◌, nat_eq, inl, inr, List, [], ◌∷◌, length, codes, Option, Some, None, lit<, subst}
use Rattle.std.proofs.lemmas.Bool.{cases_Bool}
use Rattle.std.specs.Cmp.Lexicographic.{pointwise}
use Rattle.std.specs.Option.{option_map, unwrap_or}
use Rattle.esc_values.specs.Clear.{IsClearPart, AreClearParts}
use Rattle.esc_values.specs.Cuts.{Pairs, key_and_value, pairs_in, without_empty, last_value}
use Rattle.esc_values.specs.Scalars.{IsSigned, signed_of}
use Rattle.esc_values.proofs.Clear.ClearPairs.{IsClearPair, key_clear}
use Rattle.esc_values.proofs.Numbers.FactsIfSome.{Where, where_if, where_map, where_then, anything}
use Rattle.esc_values.proofs.Numbers.SignedReadsBack.{signed_where}
use Rattle.esc_prompts.specs.Pairs.{KeyValues, keys_of, last_values}
use Rattle.esc_prompts.specs.Prompts.{IsAid, IsWritablePrompt, aid_and_click, aid_of, lone_prompt, click_in, kind_among, prompt_of_letter, prompt_of, status_of}
use Rattle.esc_prompts.specs.declared.click.FinalTermClick.{FinalTermClick}
use Rattle.esc_prompts.specs.declared.prompt.FinalTermSemanticPrompt.{FinalTermSemanticPrompt}
use Rattle.esc_prompts.specs.declared.prompt.FinalTermSemanticPrompt.TheVariants as prompt
use Rattle.esc_prompts.specs.declared.prompt_kind.FinalTermPromptKind.{FinalTermPromptKind}

-- the values of clear parts are clear parts
abbrev AreClearValues : Pairs → Type 0
AreClearValues [] = Unit {0}
AreClearValues (e ∷ es) = IsClearPart e.1 × AreClearValues es

pairs_where : (args : List (List ℕ)) → AreClearParts args
    → Where AreClearValues (pairs_in (without_empty args))
pairs_where [] h = tt
pairs_where (p ∷ ps) h =
    elim (cases_Bool (length p == 0)) [
      | inl held ↦ rw held (pairs_where ps h.1)
      | inr failed ↦ rw failed (where_then IsClearPair AreClearValues (λ e.
          option_map (λ more. e ∷ more) (pairs_in (without_empty ps)))
          (λ e w. where_map AreClearValues AreClearValues (λ more. e ∷ more) (λ more k.
          (w.0.1, k)) (pairs_in (without_empty ps))
          (pairs_where ps h.1)) (key_and_value p) (key_clear p h.0))
    ]

last_good : (k : List ℕ) (found : Option (List ℕ)) (es : Pairs) → IsAid found → AreClearValues es
    → IsAid (last_value k found es)
last_good k found [] h w = h
last_good k found (e ∷ es) h w =
    elim (cases_Bool (pointwise nat_eq e.0 k)) [
      | inl held ↦ rw held (last_good k (Some e.1) es w.0 w.1)
      | inr failed ↦ rw failed (last_good k found es h w.1)
    ]

abbrev HasAid : KeyValues → Type 0
HasAid v = IsAid v.aid

keys_where : (args : List (List ℕ)) → AreClearParts args → Where HasAid (keys_of args)
keys_where args h =
    where_map AreClearValues HasAid last_values (λ es w. last_good (codes "aid") None es tt w)
    (pairs_in (without_empty args)) (pairs_where args h)

aid_where : (args : List (List ℕ)) → AreClearParts args → Where IsAid (aid_of args)
aid_where args h = where_map HasAid IsAid (λ v. v.aid) (λ v w. w) (keys_of args) (keys_where args h)

abbrev First : Option (List ℕ) × Option FinalTermClick → Type 0
First f = IsAid f.0

both_where : (args : List (List ℕ)) → AreClearParts args → Where First (aid_and_click args)
both_where args h =
    where_then HasAid First (λ v. option_map (λ c. (v.aid, c)) (click_in v.cl))
    (λ v w. where_map (λ (c : Option FinalTermClick). Unit {0}) First (λ c. (v.aid, c)) (λ c u.
    w) (click_in v.cl) (anything (click_in v.cl)))
    (keys_of args) (keys_where args h)

-- a writable prompt
abbrev Good : (A : Type 0) → FinalTermSemanticPrompt A → Type 0
Good A p = IsWritablePrompt {A = A} p

status_in : (o : Option ℤ) → Where (λ z. IsSigned 32 z) o → IsSigned 32 (unwrap_or o (pos 0))
status_in None h = lit< tt
status_in (Some z) h = h

status_good : (A : Type 0) (args : List (List ℕ)) → AreClearParts args
    → Where (Good A) (status_of {A = A} args)
status_good A [] h = (lit< tt, tt)
status_good A (s ∷ args) h =
    where_map IsAid (Good A) (λ aid. prompt.CommandStatus (unwrap_or (signed_of 32 s) (pos 0)) aid)
    (λ aid w. (status_in (signed_of 32 s) (signed_where 32 s), w))
    (aid_of args) (aid_where args h.1)

alone_good : (A : Type 0) (p : FinalTermSemanticPrompt A) (args : List (List ℕ)) → Good A p
    → Where (Good A) (lone_prompt p args)
alone_good A p [] h = h
alone_good A p (a ∷ args) h = tt

lettered_good : (A : Type 0) (c : ℕ) (args : List (List ℕ)) → AreClearParts args
    → Where (Good A) (prompt_of_letter {A = A} c args)
lettered_good A c args h =
    where_if (Good A) (c == 0x4c) _ _ (alone_good A prompt.FreshLine args tt)
    (where_if (Good A) (c == 0x41) _ _ (where_map First (Good A)
    (λ (f : Option (List ℕ) × Option FinalTermClick). prompt.FreshLineAndStartPrompt f.0 f.1)
    (λ f w. w) (aid_and_click args) (both_where args h))
    (where_if (Good A) (c == 0x4e) _ _ (where_map First (Good A)
    (λ (f : Option (List ℕ) × Option FinalTermClick). prompt.MarkEndOfCommandWithFreshLine f.0 f.1)
    (λ f w. w) (aid_and_click args) (both_where args h))
    (where_if (Good A) (c == 0x50) _ _ (where_map (λ (k : FinalTermPromptKind). Unit {0}) (Good A)
    prompt.StartPrompt (λ k u. tt) (kind_among args)
    (anything (kind_among args)))
    (where_if (Good A) (c == 0x42) _ _
    (alone_good A prompt.MarkEndOfPromptAndStartOfInputUntilNextMarker args tt)
    (where_if (Good A) (c == 0x49) _ _
    (alone_good A prompt.MarkEndOfPromptAndStartOfInputUntilEndOfLine args tt)
    (where_if (Good A) (c == 0x43) _ _
    (where_map IsAid (Good A) prompt.MarkEndOfInputAndStartOfOutput (λ a w.
    w) (aid_of args) (aid_where args h))
    (where_if (Good A) (c == 0x44) _ None (status_good A args h) tt)))))))

prompt_good : (A : Type 0) (args : List (List ℕ)) → AreClearParts args
    → Where (Good A) (prompt_of {A = A} args)
prompt_good A [] h = tt
prompt_good A ([] ∷ args) h = tt
prompt_good A ((c ∷ []) ∷ args) h = lettered_good A c args h.1
prompt_good A ((c ∷ d ∷ ds) ∷ args) h = tt

pub clear_is_writable : {A : Type 0} (args : List (List ℕ)) → AreClearParts args
    → (p : FinalTermSemanticPrompt A) → prompt_of args ≡ Some p
    → IsWritablePrompt p
clear_is_writable {A = A} args h p e =
    let P : Option (FinalTermSemanticPrompt A) → Type 0 = λ o. Where (Good A) o in
    subst P e (prompt_good A args h)
