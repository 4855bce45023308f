-- These definitions say what a call of a parser promises. Here b are the bytes of the call, s is a
-- stream that the parser may have been fed before, and `self` and `actor` are each the value before
-- the call and after it.
use Rattle.std.specs.Prelude.{ℕ, ◌≡◌, ◌<◌, ◌≤◌, ◌⊎◌, List, [], ◌∷◌, ◌++◌, take, length, min, slice_index, Option, Result, Err, OnOk, OnErr, IfOk, IfErr}
use Rattle.std.specs.List.{FoldsTo}
use Rattle.fallible_alloc.specs.Refusals.{Refused}
use Rattle.esc_frame.specs.declared.actor.VTActor.{Ghosts as Actor}
use Rattle.esc_frame.specs.declared.error.ParseError.{ParseError}
use Rattle.esc_frame.specs.declared.error.ParseError.TheVariants.{Memory, Failed}
use Rattle.esc_frame.specs.declared.parser.VTParser.{VTParser}
use Rattle.esc_frame.specs.Changed.{Changed}
use Rattle.esc_frame.specs.Counts.{kept_of_cut}
use Rattle.esc_frame.specs.Events.{Event, Awaits, StopsAt}
use Rattle.esc_frame.specs.Limits.{most}
use Rattle.esc_frame.specs.Memory.{MayGrow}
use Rattle.esc_frame.specs.Segments.{Segment, IsCut}
use Rattle.esc_frame.specs.Stream.{HasConsumedWithin, HasFailed, added_within, IsAtGround, IsQuietWithin}

-- this holds of each stream that the parser may have been fed, under its limit
abbrev pub After : {A : Type 0} → VTParser A → (Option ℕ → List ℕ → Type 0) → Type 0
After p P = (limit : Option ℕ) (s : List ℕ) → HasConsumedWithin limit s p → P limit s

-- the same where no segment is unfinished
abbrev pub AfterGround : {A : Type 0} → VTParser A → (Option ℕ → List ℕ → Type 0) → Type 0
AfterGround p P = After p (λ limit s. IsAtGround s → P limit s)

-- this holds of the first byte, where there is one
abbrev pub FirstByte : List ℕ → (ℕ → Type 0) → Type 0
FirstByte b P = 0 < length b → P (slice_index b 0)

-- The actor may be given the events that b adds: it is ready for any event; or the parser has
-- failed, and gives none; or the actor awaits the events that b adds to a stream that the parser
-- may have been fed.
abbrev pub MayGive : {A S : Type 0} → Actor S → VTParser A → List ℕ → S → Type 0
MayGive V p b old = V.is_ready old ⊎ (HasFailed p ⊎ ((limit : Option ℕ) × (s : List ℕ)
    × HasConsumedWithin limit s p × Awaits V.may V.takes old (added_within limit s b)))

-- b then counts as fed, and adds this event alone
abbrev pub AddsOne : {A : Type 0} → Option ℕ → List ℕ → List ℕ → Event → VTParser A → Type 0
AddsOne limit s b event p =
    HasConsumedWithin limit (s ++ b) p × (added_within limit s b ≡ event ∷ [])

-- b then counts as fed, and the actor was given the events that it adds
abbrev pub Feeds : {A S : Type 0} → Actor S → Option ℕ → List ℕ → List ℕ
    → Changed (VTParser A) → Changed S
    → Type 0
Feeds V limit s b self actor =
    HasConsumedWithin limit (s ++ b) self.exit.now
    × FoldsTo V.takes actor.entry.now (added_within limit s b) actor.exit.now

-- An error is `Memory`: the actor was given a prefix of the events that b adds, and refused the
-- next one, or the parser stopped by itself, which it does only for this reason.
abbrev pub StopsFor : {S T : Type 0} → Type 0 → Actor S → Result T ParseError → List ℕ
    → Changed S → Option ℕ → List ℕ
    → Type 0
StopsFor reason V result b actor limit s =
    IfErr result (λ e. (e ≡ Memory)
    × StopsAt reason V.takes V.refuses actor.entry.now (added_within limit s b) actor.exit.now)

-- the reason is that the allocator A refused memory, for a string that begins before the end of b
abbrev pub IsRefused : {S T : Type 0} → Type 0 → Actor S → Result T ParseError → List ℕ
    → Changed S → Option ℕ → List ℕ
    → Type 0
IsRefused A V result b actor limit s =
    StopsFor (MayGrow (s ++ b) × Refused A) V result b actor limit s

-- A call takes all of b, after s.
pub record Parses {S T : Type 0} (A : Type 0) (V : Actor S) (result : Result T ParseError)
    (b : List ℕ) (self : Changed (VTParser A)) (actor : Changed S) (limit : Option ℕ) (s : List ℕ)
    : Type 0 where
  -- all of b was fed
  pub given : OnOk result (Feeds V limit s b self actor)
  -- but for an error
  pub refused : IsRefused A V result b actor limit s

-- A call takes a prefix of b, and returns its length.
pub record ParsesSome {S : Type 0} (A : Type 0) (V : Actor S) (result : Result ℕ ParseError)
    (b : List ℕ) (self : Changed (VTParser A)) (actor : Changed S) (limit : Option ℕ) (s : List ℕ)
    : Type 0 where
  -- the prefix was fed, and all but its last byte add no event and leave a segment unfinished
  pub given : IfOk result (λ n. Feeds V limit s (take n b) self actor × IsQuietWithin limit s b n)
  -- but for an error
  pub refused : IsRefused A V result b actor limit s

-- there is no such reason: the actor refused
abbrev pub IsRefusedByActor : {S T : Type 0} → Actor S → Result T ParseError → List ℕ
    → Changed S → Option ℕ → List ℕ
    → Type 0
IsRefusedByActor V result b actor limit s = StopsFor ⊥ V result b actor limit s

-- a byte at least is taken, where there is one, and no more than there are
pub record TakesSome {S : Type 0} (result : Result ℕ ParseError) (b : List ℕ)
    (actor : Changed S) : Type 0 where
  pub count : IfOk result (λ n. (n ≤ length b) × (0 < length b → 0 < n))
  -- and where there is none, the actor is as it was
  pub empty : length b ≡ 0 → actor.exit.now ≡ actor.entry.now

-- says what a call leaves
pub record Leaves {A S T : Type 0} (V : Actor S) (result : Result T ParseError)
    (self : Changed (VTParser A)) (actor : Changed S) : Type 0 where
  -- an error is for good
  pub ends : OnErr result (HasFailed self.exit.now)
  -- after it a call returns `Failed`, and leaves the actor as it was
  pub failed : HasFailed self.entry.now
      → (result ≡ Err Failed) × (actor.exit.now ≡ actor.entry.now)
  -- after a call without an error the actor is ready for any event, where it was before
  pub ready : V.is_ready actor.entry.now → OnOk result (V.is_ready actor.exit.now)

-- says that n bytes are kept of the last segment, up to the greatest number of a `usize`
abbrev pub IsKeptOf : ℕ → Option ℕ → List ℕ → Type 0
IsKeptOf n limit s = (gs : List Segment) → IsCut s gs → n ≡ min (kept_of_cut limit gs) most
