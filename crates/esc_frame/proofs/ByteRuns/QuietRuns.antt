-- Runs that tell nothing, and the byte after them.
use Rattle.std.proofs.Common.{ℕ, ◌≡◌, ◌+◌, ◌<◌, true, false, List, [], ◌∷◌, ◌++◌, length, take, drop, get_or, refl, Option}
use Rattle.std.proofs.Common.{ap, sym, ◌∙◌, subst, length-drop, arith}
use Rattle.std.specs.List.{FoldsTo}
use Rattle.std.proofs.lemmas.List.{append-nil, take_more}
use Rattle.esc_frame.specs.declared.classes.Class.{Class}
use Rattle.esc_frame.specs.Classes.{class_of}
use Rattle.esc_frame.specs.Events.{Event, StopsAt}
use Rattle.esc_frame.specs.declared.machine.Machine.{Machine}
use Rattle.esc_frame.specs.Leads.{Unfinished, Holds}
use Rattle.esc_frame.specs.Machine.Calls.{StaysFresh}
use Rattle.esc_frame.specs.Machine.Moves.{move, after_by, events_by, after_all, events_all, may_grow_in, reaches_growing}
use Rattle.esc_frame.specs.Machine.Moves.{is_borrowable, may_grow_within}
use Rattle.esc_frame.proofs.Emits.EventsFold.{stops_for, stops_here}
use Rattle.esc_frame.proofs.Steps.MovesIgnoreLimit.{after_same}
use Rattle.esc_frame.proofs.Emits.EventsAreTheCuts.{after_append, events_append}
use Rattle.esc_frame.proofs.Borrow.BytesAreLent.{grows_by, reaches_after, reaches_first}
use Rattle.esc_frame.proofs.ByteRuns.ManyBytes.{stop_within}

-- no events leave the actor as it was
pub quiet_folds : {S : Type 0} (takes : S → Event → S → Type 0) (es : List Event) (old : S)
    → es ≡ [] → FoldsTo takes old es old
quiet_folds takes es old e = subst (λ xs. FoldsTo takes old xs old) (sym e) refl

-- ---- a run that emits nothing, and the byte after it

module _ {S : Type 0} (limit : Option ℕ) (takes refuses : S → Event → S
    → Type 0) (u v : Unfinished) (rest : List ℕ) (n : ℕ) (c : Class) (old new : S)
    (run : (after_all u (take n rest) ≡ v) × (events_all limit u (take n rest) ≡ []))
    (room : n < length rest) (e : c ≡ class_of (get_or rest n 0)) where
  pub quiet_after : after_all u (take (n + 1) rest) ≡ after_by v (get_or rest n 0) c
  quiet_after =
      ap (after_all u) (take_more rest n 0 room) ∙ after_append u (take n rest) (get_or rest n 0
      ∷ [])
      ∙ ap (λ w. after_by w (get_or rest n 0) (class_of (get_or rest n 0))) run.0
      ∙ ap (after_by v (get_or rest n 0)) (sym e)

  pub quiet_events : events_all limit u (take (n + 1) rest) ≡ events_by limit v (get_or rest n 0) c
  quiet_events =
      ap (events_all limit u) (take_more rest n 0 room)
      ∙ events_append limit u (take n rest) (get_or rest n 0 ∷ [])
      ∙ ap (λ es. es ++ events_all limit (after_all u (take n rest)) (get_or rest n 0 ∷ [])) run.1
      ∙ ap (λ w. events_all limit w (get_or rest n 0 ∷ [])) run.0
      ∙ append-nil (events_by limit v (get_or rest n 0) (class_of (get_or rest n 0)))
      ∙ ap (events_by limit v (get_or rest n 0)) (sym e)

  quiet_grows : is_borrowable u rest ≡ false → may_grow_in v ≡ true → may_grow_within u rest ≡ true
  quiet_grows k h =
      let some : 0 < length (drop n rest) = omega (arith, length-drop n rest) in
      grows_by u rest (reaches_after u rest n (ap (λ x. reaches_growing x (drop n rest)) run.0
      ∙ reaches_first v (drop n rest) some h)) k

  pub quiet_given : FoldsTo takes old (events_by limit v (get_or rest n 0) c) new
      → FoldsTo takes old (events_all limit u (take (n + 1) rest)) new
  quiet_given h = subst (λ es. FoldsTo takes old es new) (sym quiet_events) h

  pub quiet_took : {K A : Type 0} (keeps : Option ℕ → K → List ℕ → Type 0) (machine : Machine K A)
      → StaysFresh u rest (n + 1)
      → Holds keeps limit machine (move limit v (get_or rest n 0) c).0
      × FoldsTo takes old (move limit v (get_or rest n 0) c).1 new
      → Holds keeps limit machine (after_all u (take (n + 1) rest))
      × FoldsTo takes old (events_all limit u (take (n + 1) rest)) new × StaysFresh u rest (n + 1)
  quiet_took keeps machine fresh h = (
    subst (λ w. Holds keeps limit machine w) (after_same limit v (get_or rest n 0) c
        ∙ sym quiet_after) h.0,
    quiet_given h.1,
    fresh,
  )

  -- stopped at it
  pub quiet_stopped : (own : Type 0)
      → StopsAt own takes refuses old (events_by limit v (get_or rest n 0) c) new
      → StopsAt own takes refuses old (events_all limit u rest) new
  quiet_stopped own h =
      stop_within limit own takes refuses u rest (n + 1) old new
      (subst (λ es. StopsAt own takes refuses old es new) (sym quiet_events) h)

  -- for a reason for which the memory may grow
  pub quiet_stops_for : {why : Type 0} (own : Type 0)
      → (own → (may_grow_within u rest ≡ true) × why)
      → StopsAt own takes refuses old (events_by limit v (get_or rest n 0) c) new
      → StopsAt ((may_grow_within u rest ≡ true) × why) takes refuses old
      (events_all limit u rest) new
  quiet_stops_for {why} own w h =
      quiet_stopped ((may_grow_within u rest ≡ true) × why)
      (stops_for own ((may_grow_within u rest ≡ true) × why) takes refuses _ old new w h)

  pub quiet_stops : {why : Type 0} → (may_grow_in v ≡ true → is_borrowable u rest ≡ false)
      → StopsAt ((may_grow_in v ≡ true) × why) takes refuses old
      (events_by limit v (get_or rest n 0) c) new
      → StopsAt ((may_grow_within u rest ≡ true) × why) takes refuses old
      (events_all limit u rest) new
  quiet_stops {why} k h =
      quiet_stops_for ((may_grow_in v ≡ true) × why) (λ g. (quiet_grows (k g.0) g.0, g.1)) h

-- the machine stopped by itself, where it may, since memory was refused
pub own_stops : {S why : Type 0} (limit : Option ℕ) (takes refuses : S → Event → S → Type 0)
    (u : Unfinished) (rest : List ℕ)
    (old : S) → 0 < length rest → may_grow_in u ≡ true → is_borrowable u rest ≡ false → why
    → StopsAt ((may_grow_within u rest ≡ true)
    × why) takes refuses old (events_all limit u rest) old
own_stops {S} {why} limit takes refuses u rest old some h k w =
    stops_here ((may_grow_within u rest ≡ true) × why) takes refuses (events_all limit u rest) old
    (grows_by u rest (reaches_first u rest some h) k, w)
