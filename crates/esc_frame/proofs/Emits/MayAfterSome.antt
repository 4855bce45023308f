-- An actor may be given these events, after some of them.
use Rattle.std.proofs.Common.{ℕ, ◌≡◌, ◌<◌, ◌+◌, ◌⊎◌, inl, inr, List, [], ◌∷◌, ◌++◌, map, length, take, drop, get_or, ap, sym, ◌∙◌, subst, take-append-drop, append_assoc}
use Rattle.std.specs.List.{FoldsTo}
use Rattle.std.proofs.lemmas.List.{map-append, take_more, append-nil}
use Rattle.esc_frame.specs.Events.{Awaits, MayGet}

module _ {S V : Type 0} (may : S → V → Type 0) (takes : S → V → S → Type 0) where
  pub take_prefix : (old : S) (xs ys : List V) → Awaits may takes old (xs ++ ys)
      → Awaits may takes old xs
  take_prefix old [] ys m = tt
  take_prefix old (x ∷ xs) ys m = (m.0, λ mid t. take_prefix mid xs ys (m.1 mid t))

  pub take_rest : (old : S) (xs ys : List V) (mid : S) → FoldsTo takes old xs mid
      → Awaits may takes old (xs ++ ys) → Awaits may takes mid ys
  take_rest old [] ys mid e m = subst (λ p. Awaits may takes p ys) e m
  take_rest old (x ∷ xs) ys mid e m = take_rest e.0 xs ys mid e.2 (m.1 e.0 e.1)

module _ {S V : Type 0} (is_ready : S → Type 0) (may : S → V → Type 0) (takes : S → V → S → Type 0)
    (old mid : S) where
  -- the next of some
  pub get_first : (v : V) (vs : List V) → MayGet is_ready may takes old (v ∷ vs)
      → is_ready old ⊎ may old v
  get_first v vs (inl r) = inl r
  get_first v vs (inr m) = inr m.0

  -- it may be given the rest after some
  pub get_rest : (xs ys all : List V) → xs ++ ys ≡ all → (is_ready old → is_ready mid)
      → FoldsTo takes old xs mid → MayGet is_ready may takes old all
      → MayGet is_ready may takes mid ys
  get_rest xs ys all e k f (inl r) = inl (k r)
  get_rest xs ys all e k f (inr m) =
      inr (take_rest may takes old xs ys mid f (subst (Awaits may takes old) (sym e) m))

-- bytes, one call a byte
module _ {S V : Type 0} (is_ready : S → Type 0) (may : S → V → Type 0)
    (takes : S → V → S → Type 0) (event : ℕ → V) (xs : List ℕ) (i : ℕ)
    (h : i < length xs) (old mid : S) where
  pub get_each : (is_ready old → is_ready mid) → FoldsTo takes old (map event (take i xs)) mid
      → MayGet is_ready may takes old (map event xs)
      → is_ready mid ⊎ may mid (event (get_or xs i 0))
  get_each k f m =
      get_first is_ready may takes mid mid (event (get_or xs i 0)) (map event (drop (i + 1) xs))
      (get_rest is_ready may takes old mid (map event (take i xs)) _ (map event xs) all k f m)
    where
      all : map event (take i xs) ++ event (get_or xs i 0) ∷ map event (drop (i + 1) xs)
          ≡ map event xs
      all = sym (append_assoc (map event (take i xs)) (event (get_or xs i 0) ∷ []) _)
          ∙ ap (λ ys. ys ++ map event (drop (i + 1) xs))
          (sym (ap (map event) (take_more xs i 0 h)
          ∙ map-append event (take i xs) (get_or xs i 0 ∷ [])))
          ∙ sym (map-append event (take (i + 1) xs) (drop (i + 1) xs))
          ∙ ap (map event) (take-append-drop (i + 1) xs)

-- ---- the events given, from the log of an actor that keeps one

abbrev pub Logs : {V : Type 0} → List V → V → List V → Type 0
Logs old v new = new ≡ old ++ v ∷ []

pub logged : {V : Type 0} (old vs new : List V) → FoldsTo Logs old vs new → new ≡ old ++ vs
logged old [] new e = sym e ∙ sym (append-nil old)
logged old (v ∷ vs) new (mid, e, h) =
    logged mid vs new h ∙ ap (λ xs. xs ++ vs) e ∙ append_assoc old (v ∷ []) vs
