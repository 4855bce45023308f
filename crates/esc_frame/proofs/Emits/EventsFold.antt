-- An actor is given events, call after call.
use Rattle.std.proofs.Common.{ℕ, ◌≡◌, ◌+◌, ◌<◌, Bool, true, false, not, List, [], ◌∷◌, ◌++◌, map, length, take, drop, get_or, Result, Ok, Err, refl}
use Rattle.std.proofs.Common.{inl, inr, ap, subst}
use Rattle.std.proofs.Common.{Option}
use Rattle.std.proofs.Common.{sym, ◌∙◌, append_assoc, take-append-drop, IfOk}
use Rattle.std.specs.List.{FoldsTo}
use Rattle.std.proofs.lemmas.List.{map-append, take_more}
use Rattle.esc_frame.specs.declared.machine.Machine.{Machine}
use Rattle.esc_frame.specs.Events.{Event, StopsAt, Takes, Receives}
use Rattle.esc_frame.specs.Leads.{Unfinished, Holds}
use Rattle.esc_frame.specs.Machine.Calls.{Moved, Fails, Stops}
use Rattle.esc_frame.specs.Machine.Moves.{Move, emitting}

-- one call is one event
pub receives_takes : {S E : Type 0} (own : Type 0) (takes refuses : S → Event → S → Type 0)
    (result : Result (Unit {0}) E) (old new : S) (e : Event)
    → Receives takes refuses result old e new → Takes own takes refuses result old (e ∷ []) new
receives_takes own takes refuses (Ok x) old new e h = (new, h, refl)
receives_takes own takes refuses (Err x) old new e h =
    ([], e ∷ [], refl, inr (old, e, [], refl, refl, h))

-- a call that was refused
pub refused_stops : {S : Type 0} (own : Type 0) (takes refuses : S → Event → S
    → Type 0) (old new : S) (e : Event) → refuses old e new
    → StopsAt own takes refuses old (e ∷ []) new
refused_stops own takes refuses old new e h = ([], e ∷ [], refl, inr (old, e, [], refl, refl, h))

-- a weaker reason to stop
pub stops_for : {S : Type 0} (own other : Type 0) (takes refuses : S → Event → S → Type 0)
    (xs : List Event) (old new : S)
    → (own → other) → StopsAt own takes refuses old xs new → StopsAt other takes refuses old xs new
stops_for own other takes refuses xs old new w (prefix, rest, e, inl (o, f)) =
    (prefix, rest, e, inl (w o, f))
stops_for own other takes refuses xs old new w (prefix, rest, e, inr r) = (prefix, rest, e, inr r)

pub takes_for : {S E : Type 0} (own other : Type 0) (takes refuses : S → Event → S → Type 0)
    (result : Result (Unit {0}) E) (old new : S) (es : List Event) → (own → other)
    → Takes own takes refuses result old es new → Takes other takes refuses result old es new
takes_for own other takes refuses (Ok x) old new es w h = h
takes_for own other takes refuses (Err x) old new es w h =
    stops_for own other takes refuses es old new w h

-- the same event, for a weaker reason
pub takes_one : {S E : Type 0} (own other : Type 0) (takes refuses : S → Event → S → Type 0)
    (result : Result (Unit {0}) E) (old new : S) {e f : Event} → e ≡ f → (own → other)
    → Takes own takes refuses result old (e ∷ []) new
    → Takes other takes refuses result old (f ∷ []) new
takes_one own other takes refuses result old new {e} {f} i w h =
    subst (λ y. Takes other takes refuses result old (y ∷ []) new) i
    (takes_for own other takes refuses result old new (e ∷ []) w h)

-- the actor alone refused, if it did so for few parts
pub takes_few : {S E : Type 0} (few : Bool) (why : Type 0) (takes refuses : S → Event → S → Type 0)
    (result : Result (Unit {0}) E) (old new : S) (es : List Event)
    → Takes why takes refuses result old es new
    → (few ≡ true → Takes ⊥ takes refuses result old es new)
    → Takes ((not few ≡ true) × why) takes refuses result old es new
takes_few true why takes refuses result old new es h k =
    takes_for ⊥ ((false ≡ true) × why) takes refuses result old new es (λ no. absurd no) (k refl)
takes_few false why takes refuses result old new es h k =
    takes_for why ((true ≡ true) × why) takes refuses result old new es (λ w. (refl, w)) h

-- a move of these events
module _ {K A S E : Type 0} (keeps : Option ℕ → K → List ℕ → Type 0) (may_fail : Option ℕ → Type 0)
    (limit : Option ℕ)
    (takes refuses : S → Event → S → Type 0) (result : Result (Unit {0}) E) (u : Unfinished)
    (es : List Event)
    (m : Machine K A) (old new : S) (k : Holds keeps limit m u) where
  -- which stopped for such a reason
  moved_for : (own : Type 0) (mine : Bool) → (own → (mine ≡ true) × may_fail limit)
      → Takes own takes refuses result old es new
      → Moved keeps may_fail limit mine takes refuses result (u, es) m old new
  moved_for own mine w h = by_result result h
    where
      by_result : (r : Result (Unit {0}) E) → Takes own takes refuses r old es new
          → Moved keeps may_fail limit mine takes refuses r (u, es) m old new
      by_result (Ok x) h = (k, h)
      by_result (Err x) h =
          stops_for own ((mine ≡ true) × may_fail limit) takes refuses es old new w h

  -- by no own reason
  pub quiet_moved : (own : Bool) → Takes ⊥ takes refuses result old es new
      → Moved keeps may_fail limit own takes refuses result (u, es) m old new
  quiet_moved own h = moved_for ⊥ own (λ no. absurd no) h

-- or the actor was given a text of it
pub takes_moved : {K A S E : Type 0} (keeps : Option ℕ → K → List ℕ → Type 0)
    (may_fail : Option ℕ → Type 0) (stops : Type 0 → List ℕ → Type 0) (limit : Option ℕ)
    (takes refuses : S → Event → S → Type 0) (result : Result (Unit {0}) E) (u : Unfinished)
    (es : List Event) (m : Machine K A) (old new : S) → Holds keeps limit m u
    → Takes (Stops stops A limit) takes refuses result old es new
    → Moved keeps (Fails may_fail stops A) limit true takes refuses result (u, es) m old new
takes_moved {K} {A} keeps may_fail stops limit takes refuses result u es m old new k h =
    moved_for keeps (Fails may_fail stops A) limit takes refuses result u es m old new k
    (Stops stops A limit) true (λ r. (refl, inr r)) h

pub receives_moved : {K A S E : Type 0} (keeps : Option ℕ → K → List ℕ → Type 0)
    (may_fail : Option ℕ → Type 0)
    (limit : Option ℕ) (own : Bool)
    (takes refuses : S → Event → S → Type 0) (result : Result (Unit {0}) E)
    (u : Unfinished) (e : Event)
    (m : Machine K A) (old new : S) → Holds keeps limit m u
    → Receives takes refuses result old e new
    → Moved keeps may_fail limit own takes refuses result (u, e ∷ []) m old new
receives_moved keeps may_fail limit own takes refuses result u e m old new k h =
    quiet_moved keeps may_fail limit takes refuses result u (e ∷ []) m old new k own
    (receives_takes ⊥ takes refuses result old new e h)

pub folds_then : {S : Type 0} (takes : S → Event → S
    → Type 0) (xs ys : List Event) (old mid new : S) → FoldsTo takes old xs mid
    → FoldsTo takes mid ys new
    → FoldsTo takes old (xs ++ ys) new
folds_then {S} takes [] ys old mid new e h = let P : S → Type 0 = λ s. FoldsTo takes s ys new in
    subst P (sym e) h
folds_then takes (x ∷ xs) ys old mid new (j, g, r) h = (j, g, folds_then takes xs ys j mid new r h)

pub stops_then : {S : Type 0} (own : Type 0) (takes refuses : S → Event → S
    → Type 0) (xs ys : List Event) (old mid new : S) → FoldsTo takes old xs mid
    → StopsAt own takes refuses mid ys new → StopsAt own takes refuses old (xs ++ ys) new
stops_then own takes refuses xs ys old mid new h (prefix, rest, e, inl (o, f)) = (
  xs ++ prefix,
  rest,
  ap (λ zs. xs ++ zs) e ∙ sym (append_assoc xs prefix rest),
  inl (o, folds_then takes xs prefix old mid new h f),
)
stops_then own takes refuses xs ys old mid new h (prefix, rest, e, inr (m, x, more, is, f, r)) = (
  xs ++ prefix,
  rest,
  ap (λ zs. xs ++ zs) e ∙ sym (append_assoc xs prefix rest),
  inr (m, x, more, is, folds_then takes xs prefix old mid m h f, r),
)

-- a call that stopped within some events stopped within them and more
pub stops_more : {S : Type 0} (own : Type 0) (takes refuses : S → Event → S
    → Type 0) (xs ys : List Event) (old new : S) → StopsAt own takes refuses old xs new
    → StopsAt own takes refuses old (xs ++ ys) new
stops_more own takes refuses xs ys old new (prefix, rest, e, inl f) =
    (prefix, rest ++ ys, ap (λ zs. zs ++ ys) e ∙ append_assoc prefix rest ys, inl f)
stops_more own takes refuses xs ys old new (prefix, rest, e, inr (m, x, more, is, f, r)) = (
  prefix,
  rest ++ ys,
  ap (λ zs. zs ++ ys) e ∙ append_assoc prefix rest ys,
  inr (m, x, more ++ ys, ap (λ zs. zs ++ ys) is, f, r),
)

-- stopped before the first
pub stops_here : {S : Type 0} (own : Type 0) (takes refuses : S → Event → S
    → Type 0) (xs : List Event) (old : S) → own → StopsAt own takes refuses old xs old
stops_here own takes refuses xs old o = ([], xs, refl, inl (o, refl))

pub ok_more : {T E : Type 0} {P Q : T → Type 0} (r : Result T E) → ((x : T) → P x → Q x) → IfOk r P
    → IfOk r Q
ok_more (Ok x) f a = f x a
ok_more (Err e) f a = tt

-- some events, and then a move
pub moves_then : {K A S E : Type 0} (keeps : Option ℕ → K → List ℕ → Type 0)
    (may_fail : Option ℕ → Type 0)
    (limit : Option ℕ) (own : Bool)
    (takes refuses : S → Event → S → Type 0) (result : Result (Unit {0}) E)
    (es : List Event) (m : Move)
    (machine : Machine K A) (old mid new : S) → FoldsTo takes old es mid
    → Moved keeps may_fail limit own takes refuses result m machine mid new
    → Moved keeps may_fail limit own takes refuses result (emitting es m) machine old new
moves_then keeps may_fail limit own takes refuses (Ok v) es m machine old mid new h t =
    (t.0, folds_then takes es m.1 old mid new h t.1)
moves_then {K} {A} keeps may_fail limit own takes refuses (Err v) es m machine old mid new h t =
    stops_then ((own ≡ true) × may_fail limit) takes refuses es m.1 old mid new h t

-- bytes, one call a byte
module _ {S : Type 0} (takes refuses : S → Event → S → Type 0) (event : ℕ
    → Event) (xs : List ℕ) (i : ℕ) (h : i < length xs) (old mid new : S)
    (so : FoldsTo takes old (map event (take i xs)) mid) where
  next : map event (take (i + 1) xs) ≡ map event (take i xs) ++ event (get_or xs i 0) ∷ []
  next = ap (map event) (take_more xs i 0 h) ∙ map-append event (take i xs) (get_or xs i 0 ∷ [])

  pub each_next : takes mid (event (get_or xs i 0)) new
      → FoldsTo takes old (map event (take (i + 1) xs)) new
  each_next g =
      subst (λ es. FoldsTo takes old es new) (sym next)
      (folds_then takes (map event (take i xs)) (event (get_or xs i 0) ∷ []) old mid new so (
        new,
        g,
        refl,
      ))

  pub each_stop : (own : Type 0) → refuses mid (event (get_or xs i 0)) new
      → StopsAt own takes refuses old (map event xs) new
  each_stop own r =
      let all : map event (take (i + 1) xs) ++ map event (drop (i + 1) xs) ≡ map event xs =
      sym (map-append event (take (i + 1) xs) (drop (i + 1) xs)) ∙ ap
      (map event) (take-append-drop (i + 1) xs) in
      let prefix : StopsAt own takes refuses old (map event (take (i + 1) xs)) new =
      subst (λ es. StopsAt own takes refuses old es new) (sym next)
      (stops_then own takes refuses (map event (take i xs)) _ old mid new so
      (refused_stops own takes refuses mid new (event (get_or xs i 0)) r)) in
      subst (λ es. StopsAt own takes refuses old es new) all
      (stops_more own takes refuses (map event (take (i + 1) xs)) _ old new prefix)
