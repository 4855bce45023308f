-- A call does this to the machine and the actor. No contract of `VTParser` cites it.
use Rattle.std.specs.Prelude.{ℕ, ◌≡◌, ◌≤◌, ◌<◌, Bool, true, false, not, List, [], ◌∷◌, length, take, Option, Result, MatchResult, IfOk, ◌⊎◌}
use Rattle.std.specs.List.{FoldsTo}
use denote.Bor.{Bor}
use Rattle.fallible_alloc.specs.Refusals.{Refused}
use Rattle.esc_frame.specs.Limits.{is_within}
use Rattle.esc_frame.specs.declared.machine.Machine.{Machine}
use Rattle.esc_frame.specs.declared.machine.State.{State}
use Rattle.esc_frame.specs.declared.machine.State.TheVariants as state
use Rattle.esc_frame.specs.Events.{Event, Awaits, StopsAt}
use Rattle.esc_frame.specs.Leads.{Unfinished, Holds}
use Rattle.esc_frame.specs.Segments.{is_empty}
use Rattle.esc_frame.specs.Leads.Unfinished.{Ground}
use Rattle.esc_frame.specs.Machine.Moves.{Move, after_all, events_all, may_grow_within, is_fresh, is_borrowable, IsStill}

-- The actor stopped by itself at a text of a string within the limit, which it was given with a
-- reference to an allocator.
abbrev pub Stops : (Type 0 → List ℕ → Type 0) → Type 0 → Option ℕ → Type 0
Stops stops A limit = (t : List ℕ) × (is_within limit (length t) ≡ true) × stops (Refused (Bor A)) t

-- Why a machine may stop by itself under a limit: its store failed, or the actor stopped.
abbrev pub Fails : (Option ℕ → Type 0) → (Type 0 → List ℕ → Type 0) → Type 0 → Option ℕ → Type 0
Fails may_fail stops A limit = may_fail limit ⊎ Stops stops A limit

-- The machine made this move: it keeps the unfinished segment after it, and the actor was given its
-- events. If the result is an error the actor was given a prefix of them; the machine stopped by
-- itself only if `own` holds, for the reason `may_fail`.
abbrev pub Moved : {K A S E : Type 0} → (Option ℕ → K → List ℕ → Type 0) → (Option ℕ → Type 0)
    → Option ℕ → Bool
    → (S → Event → S → Type 0) → (S → Event → S → Type 0) → Result (Unit {0}) E → Move
    → Machine K A → S → S
    → Type 0
Moved {K} {A} keeps may_fail limit own takes refuses result m machine old new =
    MatchResult result (λ _. Holds keeps limit machine m.0 × FoldsTo takes old m.1 new)
    (λ _. StopsAt ((own ≡ true) × may_fail limit) takes refuses old m.1 new)

-- where all strings in the rest can be lent, none of them is begun after its first n bytes but for
-- its opener
abbrev pub StaysFresh : Unfinished → List ℕ → ℕ → Type 0
StaysFresh u rest n = is_borrowable u rest ≡ true → is_fresh (after_all u (take n rest)) ≡ true

-- The call took n bytes of the rest, where u was unfinished before: the machine keeps the
-- unfinished segment after them, and the actor was given their events. If the result is an error
-- the actor was given a prefix of the events of the rest; the machine stopped by itself only if its
-- memory may grow and memory was refused.
abbrev pub Took : {K A S E : Type 0} → (Option ℕ → K → List ℕ → Type 0) → (Option ℕ → Type 0)
    → Option ℕ
    → (S → Event → S → Type 0) → (S → Event → S → Type 0) → Result ℕ E → Unfinished → List ℕ
    → Machine K A → S → S
    → Type 0
Took {K} {A} keeps may_fail limit takes refuses result u rest machine old new =
    MatchResult result
    (λ n. Holds keeps limit machine (after_all u (take n rest))
    × FoldsTo takes old (events_all limit u (take n rest)) new
    × StaysFresh u rest n)
    (λ _. StopsAt ((may_grow_within u rest ≡ true) × may_fail limit) takes refuses old
    (events_all limit u rest) new)

-- it took a byte at least, and no more than there are, the actor stays ready, and the machine keeps
-- its limit
abbrev pub Advances : {K A S E : Type 0} → (S → Type 0) → Result ℕ E → List ℕ → Machine K A
    → Machine K A → S → S
    → Type 0
Advances is_ready result rest before machine old new =
    IfOk result (λ n. (0 < n) × (n ≤ length rest) × (is_ready old → is_ready new)
    × (machine.limit ≡ before.limit))

-- all bytes that it took but the last emit nothing and leave a segment unfinished
abbrev pub Quietly : {E : Type 0} → Option ℕ → Result ℕ E → Unfinished → List ℕ → Type 0
Quietly limit result u rest = IfOk result (λ n. IsStill limit u rest n)

-- in ground these bytes emit one event, whatever the limit, and leave nothing unfinished
abbrev pub IsOneEvent : List ℕ → Event → Type 0
IsOneEvent x e = (after_all Ground x ≡ Ground)
    × ((limit : Option ℕ) → events_all limit Ground x ≡ e ∷ [])

-- The actor may be given the events of these bytes, where u was unfinished before, under some
-- limit: it is ready for any, or awaits these.
abbrev pub MayRun : {S : Type 0} → (S → Type 0) → (S → Event → Type 0) → (S → Event → S → Type 0)
    → Unfinished → List ℕ → S → Type 0
MayRun is_ready may takes u rest old =
    is_ready old ⊎ ((limit : Option ℕ) × Awaits may takes old (events_all limit u rest))

-- N bytes of the rest were taken in ground: whatever the limit, nothing is unfinished after them,
-- the actor was given their events, and stays ready.
abbrev pub Ran : {S : Type 0} → (S → Event → S → Type 0) → (S → Type 0) → List ℕ → ℕ → S → S
    → Type 0
Ran takes is_ready rest n old new =
    (n ≤ length rest) × (after_all Ground (take n rest) ≡ Ground)
    × ((limit : Option ℕ) → FoldsTo takes old (events_all limit Ground (take n rest)) new)
    × (is_ready old → is_ready new)

-- the same of a call, which stops only where the actor refuses
abbrev pub Stays : {S E : Type 0} → (S → Event → S → Type 0) → (S → Event → S → Type 0)
    → (S → Type 0)
    → Result ℕ E → List ℕ → S → S → Type 0
Stays takes refuses is_ready result rest old new =
    MatchResult result (λ n. Ran takes is_ready rest n old new)
    (λ _. (limit : Option ℕ) → StopsAt ⊥ takes refuses old (events_all limit Ground rest) new)

-- It took some of the bytes, in ground: one at least, and the first event among them, if any, is
-- that of the last.
abbrev pub TookSome : {K A S E : Type 0} → (Option ℕ → K → List ℕ → Type 0) → (Option ℕ → Type 0)
    → Option ℕ
    → (S → Event → S → Type 0) → (S → Event → S → Type 0) → (S → Type 0) → Result ℕ E → List ℕ
    → Machine K A → Machine K A → S → S
    → Type 0
TookSome keeps may_fail limit takes refuses is_ready result rest before machine old new =
    Took keeps may_fail limit takes refuses result Ground rest machine old new
    × Quietly limit result Ground rest
    × Advances is_ready result rest before machine old new

-- The machine is in no text of an OSC or APC, but where these bytes of a sequence pend in an OSC.
abbrev pub is_outside_text : State → List ℕ → Bool
is_outside_text state.Apc f = false
is_outside_text state.Osc f = not (is_empty f)
is_outside_text _ f = true
