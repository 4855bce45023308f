-- The events that an actor is given, call after call.
use Rattle.std.proofs.Common.{ℕ, ◌≡◌, ◌+◌, ◌<◌, Bool, true, false, List, [], ◌∷◌, ◌++◌, map, length, take, drop, get_or, Result, Ok, Err, refl, ap, sym, ◌∙◌}
use Rattle.std.proofs.Common.{subst, take-append-drop}
use Rattle.std.specs.List.{FoldsTo, filter}
use Rattle.std.proofs.lemmas.List.{map-append, take_more, append-nil}
use Rattle.std.proofs.lemmas.List.Elements.{filter-append}
use Rattle.esc_frame.specs.Events.{Event, StopsAt, Takes}
use Rattle.esc_frame.proofs.Emits.EventsFold.{folds_then, stops_then, stops_more, refused_stops, takes_for}

-- some events, and then others
pub takes_then : {S E : Type 0} (own : Type 0) (takes refuses : S → Event → S → Type 0)
    (result : Result (Unit {0}) E) (xs ys : List Event) (old mid new : S)
    → FoldsTo takes old xs mid → Takes own takes refuses result mid ys new
    → Takes own takes refuses result old (xs ++ ys) new
takes_then own takes refuses (Ok v) xs ys old mid new h t = folds_then takes xs ys old mid new h t
takes_then own takes refuses (Err v) xs ys old mid new h t =
    stops_then own takes refuses xs ys old mid new h t

-- if the call has no reason to stop by itself, the same holds with any reason
pub takes_by : {S E : Type 0} (own : Type 0) (takes refuses : S → Event → S → Type 0)
    (result : Result (Unit {0}) E) (es : List Event) (old new : S)
    → Takes ⊥ takes refuses result old es new → Takes own takes refuses result old es new
takes_by own takes refuses result es old new t =
    takes_for ⊥ own takes refuses result old new es (λ no. absurd no) t

-- the bytes that pass a test, one call a byte
module _ {S : Type 0} (takes refuses : S → Event → S → Type 0) (event : ℕ → Event) (test : ℕ
    → Bool) (xs : List ℕ) (i : ℕ) (h : i < length xs) (old mid new : S)
    (so : FoldsTo takes old (map event (filter test (take i xs))) mid) where
  one_more : filter test (take (i + 1) xs) ≡ filter test (take i xs)
      ++ filter test (get_or xs i 0 ∷ [])
  one_more = ap (filter test) (take_more xs i 0 h) ∙ filter-append test (take i xs) (get_or xs i 0
      ∷ [])

  passes : test (get_or xs i 0) ≡ true
      → map event (filter test (take (i + 1) xs)) ≡ map event (filter test (take i xs))
      ++ event (get_or xs i 0) ∷ []
  passes t =
      let one : filter test (get_or xs i 0 ∷ []) ≡ get_or xs i 0 ∷ [] = rw t refl in
      ap (map event) (one_more ∙ ap (λ y. filter test (take i xs) ++ y) one)
      ∙ map-append event (filter test (take i xs)) (get_or xs i 0 ∷ [])

  pub emitted_next : test (get_or xs i 0) ≡ true → takes mid (event (get_or xs i 0)) new
      → FoldsTo takes old (map event (filter test (take (i + 1) xs))) new
  emitted_next t g =
      subst (λ es. FoldsTo takes old es new) (sym (passes t))
      (folds_then takes (map event (filter test (take i xs))) (event (get_or xs i 0) ∷ []) old mid
      new so (new, g, refl))

  pub emitted_same : test (get_or xs i 0) ≡ false
      → FoldsTo takes old (map event (filter test (take (i + 1) xs))) mid
  emitted_same t =
      let none : filter test (get_or xs i 0 ∷ []) ≡ [] = rw t refl in
      let same : filter test (take (i + 1) xs) ≡ filter test (take i xs) =
      one_more ∙ ap (λ y. filter test (take i xs) ++ y) none
      ∙ append-nil (filter test (take i xs)) in
      subst (λ ys. FoldsTo takes old (map event ys) mid) (sym same) so

  pub emitted_stop : (own : Type 0) → test (get_or xs i 0) ≡ true
      → refuses mid (event (get_or xs i 0)) new
      → StopsAt own takes refuses old (map event (filter test xs)) new
  emitted_stop own t r =
      let all : map event (filter test (take (i + 1) xs))
      ++ map event (filter test (drop (i + 1) xs)) ≡ map event (filter test xs) =
      sym (map-append event (filter test (take (i + 1) xs)) (filter test (drop (i + 1) xs)))
      ∙ ap (map event) (sym (filter-append test (take (i + 1) xs) (drop (i + 1) xs))
      ∙ ap (filter test) (take-append-drop (i + 1) xs)) in
      let prefix : StopsAt own takes refuses old (map event (filter test (take (i + 1) xs))) new =
      subst (λ es. StopsAt own takes refuses old es new)
      (sym (passes t)) (stops_then own takes refuses (map event (filter test (take i xs))) _ old mid
      new so
      (refused_stops own takes refuses mid new (event (get_or xs i 0)) r)) in
      subst (λ es. StopsAt own takes refuses old es new) all
      (stops_more own takes refuses (map event (filter test (take (i + 1) xs))) _ old new prefix)

-- the bytes but noise, one call a byte
module _ (test : ℕ → Bool) (xs : List ℕ) (i : ℕ) (h : i < length xs) where
  pub kept_next : test (get_or xs i 0) ≡ true
      → filter test (take i xs) ++ get_or xs i 0 ∷ [] ≡ filter test (take (i + 1) xs)
  kept_next t =
      let one : filter test (get_or xs i 0 ∷ []) ≡ get_or xs i 0 ∷ [] = rw t refl in
      sym (ap (filter test) (take_more xs i 0 h) ∙ filter-append test (take i xs) (get_or xs i 0
      ∷ []) ∙ ap (λ y. filter test (take i xs) ++ y) one)

  pub kept_same : test (get_or xs i 0) ≡ false
      → filter test (take i xs) ≡ filter test (take (i + 1) xs)
  kept_same t =
      let none : filter test (get_or xs i 0 ∷ []) ≡ [] = rw t refl in
      sym (ap (filter test) (take_more xs i 0 h) ∙ filter-append test (take i xs) (get_or xs i 0
      ∷ []) ∙ ap (λ y. filter test (take i xs) ++ y) none
      ∙ append-nil (filter test (take i xs)))
