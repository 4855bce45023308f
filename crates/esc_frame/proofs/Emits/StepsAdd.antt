-- The machine's steps give the events that bytes add to a stream.
use Rattle.std.proofs.Common.{ℕ, ◌≡◌, Bool, true, false, not, ◌||◌, ◌&&◌, List, [], ◌∷◌, ◌++◌, take, Option, Some, None, IfSome, inl, inr, refl, ap, sym, ◌∙◌, subst, ◌⊎◌}
use Rattle.std.specs.List.{FoldsTo}
use Rattle.std.proofs.lemmas.Bool.{and_parts}
use Rattle.std.proofs.lemmas.List.{append-nil}
use Rattle.esc_frame.specs.declared.classes.Class.{Class}
use Rattle.esc_frame.specs.declared.machine.Machine.{Machine}
use Rattle.esc_frame.specs.declared.parser.VTParser.{VTParser}
use Rattle.esc_frame.specs.Classes.{class_of}
use Rattle.esc_frame.specs.Events.{Event, StopsAt, Awaits}
use Rattle.esc_frame.specs.Events.Event.{Execute, Print}
use Rattle.esc_frame.specs.Leads.{Holds, Unfinished}
use Rattle.esc_frame.specs.Leads.Unfinished.{Ground}
use Rattle.esc_frame.specs.Memory.{MayGrow}
use Rattle.esc_frame.specs.Machine.Calls.{IsOneEvent, Fails}
use Rattle.esc_frame.specs.Machine.Keeps.{KeepsText}
use Rattle.esc_frame.specs.Machine.Moves.{IsStill, after_by, events_by, after_all, events_all, may_grow_in, move}
use Rattle.esc_frame.specs.Machine.Moves.{reaches_growing, borrows, is_borrowable, may_grow_within}
use Rattle.esc_frame.specs.Stream.{IsQuietWithin, HasConsumedWithin, added_within, HasFailed}
use Rattle.esc_frame.proofs.Emits.EventsFold.{stops_for}
use Rattle.fallible_alloc.specs.Refusals.{Refused}
use Rattle.fallible_alloc.specs.Refusals.References.{by_reference}
use Rattle.esc_frame.proofs.Limit.GrowingSegments.{grows_added}
use Rattle.esc_frame.proofs.Steps.MovesIgnoreLimit.{after_same}
use Rattle.esc_frame.proofs.Emits.StopsAtFirstEvent.{quiet_all}
use Rattle.esc_frame.proofs.Emits.EventsAreTheCuts.{after_append, added_is}
use Rattle.esc_frame.specs.Parses.{MayGive}
use Rattle.esc_frame.specs.declared.actor.VTActor.{Ghosts as Actor}

-- many bytes keep the relation to the stream
pub kept_all : {K A : Type 0} (keeps : Option ℕ → K → List ℕ
    → Type 0) (limit : Option ℕ) (m : Machine K A) (s b : List ℕ)
    → Holds keeps limit m (after_all (after_all Ground s) b)
    → Holds keeps limit m (after_all Ground (s ++ b))
kept_all keeps limit m s b h = subst (λ u. Holds keeps limit m u) (sym (after_append Ground s b)) h

pub given_all : {S : Type 0} (l limit : Option ℕ) → l ≡ limit
    → (takes : S → Event → S → Type 0) (s b : List ℕ) (old new : S)
    → FoldsTo takes old (events_all l (after_all Ground s) b) new
    → FoldsTo takes old (added_within limit s b) new
given_all l limit i takes s b old new h =
    subst (λ es. FoldsTo takes old es new) (sym (added_is l s b) ∙ ap (λ k. added_within k s b) i) h

-- the allocator refused, as it did if the store failed
asked : (A : Type 0) (limit : Option ℕ) → Fails (λ _. Refused A) (λ w _. w) A limit → Refused A
asked A limit (inl r) = r
asked A limit (inr (t, w, r)) = by_reference A r

refused_by : {S : Type 0} (A : Type 0) (l limit : Option ℕ) → l ≡ limit
    → (takes refuses : S → Event → S → Type 0)
    (s b : List ℕ) (old new : S) (own : Type 0)
    → (own → reaches_growing (after_all Ground s) b ≡ true)
    → StopsAt (own × Fails (λ _. Refused A) (λ w _. w) A l) takes refuses old
    (events_all l (after_all Ground s) b) new
    → StopsAt (MayGrow (s ++ b) × Refused A) takes refuses old (added_within limit s b) new
refused_by A l limit i takes refuses s b old new own w h =
    subst (λ es. StopsAt (MayGrow (s ++ b) × Refused A) takes refuses old es new)
    (sym (added_is l s b) ∙ ap (λ k. added_within k s b) i)
    (stops_for (own × Fails (λ _. Refused A) (λ w _. w) A l)
    (MayGrow (s ++ b) × Refused A) takes refuses
    (events_all l (after_all Ground s) b) old new (λ o. (grows_added s b (w o.0), asked A l o.1)) h)

pub refused_all : {S : Type 0} (A : Type 0) (l limit : Option ℕ) → l ≡ limit
    → (takes refuses : S → Event → S → Type 0)
    (s b : List ℕ) (old new : S)
    → StopsAt ((may_grow_within (after_all Ground s) b ≡ true)
    × Fails (λ _. Refused A) (λ w _. w) A l)
    takes refuses old
    (events_all l (after_all Ground s) b) new
    → StopsAt (MayGrow (s ++ b) × Refused A) takes refuses old (added_within limit s b) new
refused_all A l limit i takes refuses s b old new h =
    let u = after_all Ground s in
    refused_by A l limit i takes refuses s b old new (may_grow_within u b ≡ true)
    (λ g. (and_parts (reaches_growing u b) (not (is_borrowable u b)) g).0) h

-- bytes whose strings can all be lent stop only where the actor refused
pub refused_borrowed : {S why : Type 0} (l limit : Option ℕ) → l ≡ limit
    → (takes refuses : S → Event → S → Type 0)
    (s b : List ℕ) (old new : S) → after_all Ground s ≡ Ground → borrows Ground b ≡ true
    → StopsAt ((may_grow_within (after_all Ground s) b ≡ true) × why) takes refuses old
    (events_all l (after_all Ground s) b) new
    → StopsAt ⊥ takes refuses old (added_within limit s b) new
refused_borrowed {S} {why} l limit i takes refuses s b old new e k h =
    subst (λ es. StopsAt ⊥ takes refuses old es new) (sym (added_is l s b)
    ∙ ap (λ k. added_within k s b) i)
    (stops_for ((may_grow_within (after_all Ground s) b ≡ true) × why) ⊥ takes refuses
    (events_all l (after_all Ground s) b) old new
    (λ g. borrowed_grows_not (reaches_growing Ground b) (borrows Ground b) k
    (subst (λ u. may_grow_within u b ≡ true) e g.0)) h)
  where
    borrowed_grows_not : (r t : Bool) → t ≡ true → (r && not (true && t)) ≡ true → ⊥
    borrowed_grows_not true true t g = cc
    borrowed_grows_not false true t g = cc
    borrowed_grows_not r false t g = cc

-- one byte is a list of one
or_no : (t : Bool) → t ≡ true → (t || false) ≡ true
or_no true h = refl
or_no false h = h

pub kept_one : {K A : Type 0} (keeps : Option ℕ → K → List ℕ
    → Type 0) (limit : Option ℕ) (m : Machine K A) (s : List ℕ) (b : ℕ) (c : Class) → c ≡ class_of b
    → Holds keeps limit m (move limit (after_all Ground s) b c).0
    → Holds keeps limit m (after_all Ground (s ++ b ∷ []))
kept_one keeps limit m s b c e h =
    let u = after_all Ground s in
    kept_all keeps limit m s (b ∷ []) (subst (λ k. Holds keeps limit m (after_by u b k)) e
    (subst (λ w. Holds keeps limit m w) (after_same limit u b c) h))

pub given_one : {S : Type 0} (l limit : Option ℕ) → l ≡ limit
    → (takes : S → Event → S → Type 0) (s : List ℕ) (b : ℕ) (c : Class) (old new : S)
    → c ≡ class_of b → FoldsTo takes old (events_by l (after_all Ground s) b c) new
    → FoldsTo takes old (added_within limit s (b ∷ [])) new
given_one l limit i takes s b c old new e h =
    let u = after_all Ground s in
    given_all l limit i takes s (b ∷ []) old new
    (subst (λ es. FoldsTo takes old es new) (ap (events_by l u b) e
    ∙ sym (append-nil (events_by l u b (class_of b)))) h)

pub refused_one : {S : Type 0} (A : Type 0) (l limit : Option ℕ) → l ≡ limit
    → (takes refuses : S → Event → S → Type 0)
    (s : List ℕ) (b : ℕ) (c : Class) (old new : S) → c ≡ class_of b
    → StopsAt ((may_grow_in (after_all Ground s) ≡ true) × Fails (λ _. Refused A) (λ w _. w) A l)
    takes refuses old
    (events_by l (after_all Ground s) b c) new
    → StopsAt (MayGrow (s ++ b ∷ []) × Refused A) takes refuses old
    (added_within limit s (b ∷ [])) new
refused_one A l limit i takes refuses s b c old new e h =
    let u = after_all Ground s in
    refused_by A l limit i takes refuses s (b ∷ []) old new (may_grow_in u ≡ true)
    (or_no (may_grow_in u))
    (subst (λ es. StopsAt ((may_grow_in u ≡ true) × Fails (λ _. Refused A) (λ w _. w) A l)
    takes refuses old es new)
    (ap (events_by l u b) e ∙ sym (append-nil (events_by l u b (class_of b)))) h)

-- bytes of one event, where nothing is unfinished before them and after them
event_fed : {A : Type 0} (limit : Option ℕ) (p : VTParser A) (s b : List ℕ) (x : Event)
    → HasConsumedWithin limit s p → after_all Ground s ≡ Ground
    → after_all Ground b ≡ Ground
    → events_all limit Ground b ≡ x ∷ [] → HasConsumedWithin limit (s ++ b) p
    × (added_within limit s b ≡ x ∷ [])
unfolding HasConsumedWithin
event_fed limit p s b x (f, i, h) e k n =
    let same : after_all Ground s ≡ after_all (after_all Ground s) b =
    e ∙ sym k ∙ ap (λ u. after_all u b) (sym e) in (
      (
        f,
        i,
        kept_all KeepsText p.machine.limit p.machine s b
            (subst (λ u. Holds KeepsText p.machine.limit p.machine u) same h),
      ),
      added_is limit s b ∙ ap (λ u. events_all limit u b) e ∙ n,
    )

pub character_fed : {A : Type 0} (limit : Option ℕ) (p : VTParser A) (s bs : List ℕ)
    (o : Option (ℕ × ℕ))
    → HasConsumedWithin limit s p
    → after_all Ground s ≡ Ground
    → IfSome o (λ x. IsOneEvent (take x.1 bs) (Print x.0))
    → IfSome o (λ x. IsStill limit Ground bs x.1)
    → IfSome o (λ x. (HasConsumedWithin limit (s ++ take x.1 bs) p
    × (added_within limit s (take x.1 bs) ≡ Print x.0 ∷ []))
    × IsQuietWithin limit s bs x.1)
character_fed limit p s bs None l e h q = tt
character_fed limit p s bs (Some x) l e k q = (
  event_fed limit p s (take x.1 bs) (Print x.0) l e k.0 (k.1 limit),
  quiet_all limit s bs x.1 (subst (λ u. IsStill limit u bs x.1) (sym e) q),
)

pub control_fed : {A : Type 0} (limit : Option ℕ) (p : VTParser A) (s bs : List ℕ) (o : Option ℕ)
    → HasConsumedWithin limit s p → after_all Ground s ≡ Ground
    → IfSome o (λ b. IsOneEvent (take 1 bs) (Execute b))
    → IfSome o (λ b. HasConsumedWithin limit (s ++ take 1 bs) p
    × (added_within limit s (take 1 bs) ≡ Execute b ∷ []))
control_fed limit p s bs None l e h = tt
control_fed limit p s bs (Some b) l e k =
    event_fed limit p s (take 1 bs) (Execute b) l e k.0 (k.1 limit)

-- an actor that may be given the events that bytes add may be given those that the machine emits
pub may_feed : {S A : Type 0} (V : Actor S) (p : VTParser A) (old : S) (b : List ℕ)
    → p.has_failed ≡ false → MayGive V p b old
    → V.is_ready old ⊎ ((u : Unfinished) × Holds KeepsText p.machine.limit p.machine u
    × Awaits V.may V.takes old (events_all p.machine.limit u b))
unfolding HasFailed HasConsumedWithin
may_feed V p old b fine (inl ready) = inl ready
may_feed V p old b fine (inr (inl failed)) = absurd cc
may_feed V p old b fine (inr (inr (limit, s, (f, i, h), m))) =
    inr (
      after_all Ground s,
      h,
      subst (λ l. Awaits V.may V.takes old
          (events_all l (after_all Ground s) b)) (sym i)
          (subst (Awaits V.may V.takes old) (added_is limit s b) m),
    )
