-- The bytes that a step of the machine took, and their events.
use Rattle.std.proofs.Common.{ℕ, ◌≡◌, ◌≢◌, ◌≤◌, ◌<◌, ◌||◌, Bool, true, false, List, [], ◌++◌, take, length, Result, Ok, Err, refl, ap, ◌∙◌, subst, Option, Some, arith}
use Rattle.esc_frame.specs.Leads.{Unfinished}
use Rattle.esc_frame.specs.Machine.Calls.{Took, Fails, Advances, Quietly}
use Rattle.esc_frame.specs.Machine.Moves.{events_all}
use Rattle.esc_frame.specs.declared.machine.Machine.{Machine}
use Rattle.heapless_parser.specs.declared.event.EscEvent.{EscEvent}
use Rattle.heapless_parser.specs.Noted.{IsSound, GivesSound}
use Rattle.heapless_parser.specs.Emitted.{said_events, is_run}
use Rattle.heapless_parser.proofs.EventNotes.EventsHaveRoom.{still_notable, goes_through}
use Rattle.heapless_parser.proofs.EventNotes.EventsAreNoted.{Notes, all_noted, all_run, all_sound, none_lost}

pub taken_few : {K A S E : Type 0} (is_ready : S
    → Type 0) (r : Result ℕ E) (n : ℕ) (b : Bool) (rest : List ℕ) (before machine : Machine K A)
    (old new : S)
    → (b ≡ false → r ≡ Ok n) → (b ≡ true → n ≡ 0)
    → Advances is_ready r rest before machine old new
    → n ≤ length rest
taken_few is_ready r n true rest before machine old new ok none h =
    let e : n ≡ 0 = none refl in omega arith
taken_few is_ready r n false rest before machine old new ok none h =
    (subst (λ x. Advances is_ready x rest before machine old new) (ok refl) h).1

-- neither of the two holds
pub or_parts : (a b : Bool) → (a || b) ≡ false → (a ≡ false) × (b ≡ false)
or_parts false b h = (refl, h)
or_parts true b h = absurd cc

pub or_none : (a b : Bool) → a ≡ false → b ≡ false → (a || b) ≡ false
or_none a b h k = rw (h, k) refl

pub said_same : (e f : EscEvent) (o p : List ℕ) (k j v w : ℕ) → e ≡ f → o ≡ p → k ≡ j → v ≡ w
    → said_events e o k v ≡ said_events f p j w
said_same e f o p k j v w a b c d =
    ap (λ x. said_events x o k v) a ∙ ap (λ x. said_events f x k v) b
    ∙ ap (λ x. said_events f p x v) c
    ∙ ap (λ x. said_events f p j x) d

-- nothing was noted yet
pub said_nothing : (e : EscEvent) (o : List ℕ) (k v : ℕ) → e.kind ≡ 0 → k ≡ 0 → said_events e o k v
    ≡ []
said_nothing e o k v a b = rw (a, b) refl

-- A step before which nothing was noted. The machine's store has room for a text within the limit.
module _ {K A S E : Type 0} (keeps : Option ℕ → K → List ℕ → Type 0) (event : S → EscEvent)
    (out : S → List ℕ) (queued value : S → ℕ) (lost : S → Bool) (room place : ℕ) (u : Unfinished)
    (rest : List ℕ) (machine : Machine K A) (old new : S) (kind : (event old).kind ≡ 0)
    (none : queued old ≡ 0) where
  abbrev pub StepTook : Option ℕ → Result ℕ E → Type 0
  StepTook limit r =
      Took keeps (Fails (λ l. l ≢ Some room) (λ _ t. place < length t) A) limit
      (Notes event out queued value lost place) (λ _ _ _. ⊥) r u rest machine old new

  pub took_said : (limit : Option ℕ) (r : Result ℕ E) (n : ℕ) → r ≡ Ok n → StepTook limit r
      → lost new ≡ false
      → (said_events (event new) (out new) (queued new) (value new)
      ≡ events_all limit u (take n rest))
      × (is_run (event new).kind ≡ false)
  took_said limit r n e took l =
      let t = subst (StepTook limit) e took in
      let es = events_all limit u (take n rest) in
      let q = all_noted event out queued value lost place es old new t.1 l in (
        q.1
            ∙ ap (λ y. y ++ es) (said_nothing (event old) (out old) (queued old)
            (value old) kind none),
        all_run event out queued value lost place es old new t.1 (ap is_run kind),
      )

  pub took_sound : (limit : Option ℕ) (r : Result ℕ E) → limit ≡ Some room → StepTook limit r
      → Quietly limit r u rest → room ≤ place → lost old ≡ false → IsSound (event old) place
      → (n : ℕ) × (r ≡ Ok n) × (lost new ≡ false) × GivesSound (event new) (queued new) place
  took_sound limit r same took still less kept sound =
      by_result r (subst (λ l. StepTook l r) same took) (subst (λ l. Quietly l r u rest) same still)
    where
      by_result : (r : Result ℕ E) → StepTook (Some room) r → Quietly (Some room) r u rest
          → (n : ℕ) × (r ≡ Ok n) × (lost new ≡ false) × GivesSound (event new) (queued new) place
      by_result (Ok n) t q =
          let es = events_all (Some room) u (take n rest) in
          let w =
          none_lost event out queued value lost place es old new
          (still_notable room place less u rest n q) t.1 kept kind none in
          (n, refl, w.0, (all_sound event out queued value lost place es old new t.1 sound, w.1))
      by_result (Err x) t q = absurd (goes_through room place less _ A _ _ old new t)
