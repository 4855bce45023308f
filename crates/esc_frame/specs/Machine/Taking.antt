-- A call that takes bytes in one state of the machine requires and promises this, in the same words
-- for each state. Contracts of parts cite it, here and in `heapless_parser`.
use Rattle.std.specs.Prelude.{ℕ, ◌≡◌, ◌<◌, ◌≤◌, ◌+◌, ◌⊎◌, true, Bool, List, [], Option, Result, length, take, drop, slice_index}
use Rattle.std.specs.List.{list_all}
use Rattle.esc_values.specs.declared.csi_param.CsiParam.{CsiParam}
use Rattle.esc_frame.specs.declared.machine.Machine.{Machine}
use Rattle.esc_frame.specs.declared.machine.State.TheVariants as state
use Rattle.esc_frame.specs.declared.taker.EventSink.{Ghosts as Actor}
use Rattle.esc_frame.specs.declared.unfinished.store.TextRoom.{Ghosts as Keeper}
use Rattle.esc_frame.specs.Changed.{Changed}
use Rattle.esc_frame.specs.Events.{Awaits}
use Rattle.esc_frame.specs.Leads.{Unfinished}
use Rattle.esc_frame.specs.Leads.Unfinished.{Ground}
use Rattle.esc_frame.specs.Machine.Keeping.{Unborrowed}
use Rattle.esc_frame.specs.Machine.Makes.{Advances, Consumes, StaysAtGround, StaysInGround}
use Rattle.esc_frame.specs.Machine.Calls.{Quietly}
use Rattle.esc_frame.specs.Machine.Moves.{events_all}
use Rattle.esc_frame.specs.Machine.Prefixes.{prefix_of}
use Rattle.esc_frame.specs.Machine.Shorts.{IsShort}
use Rattle.esc_frame.specs.Sequences.{is_from}

-- says P of the segments that the machine may keep in a state: of each, or of one
abbrev pub InState : Type 1
InState = (Unfinished → Type 0) → Type 0

-- between segments
abbrev pub InGround : InState
InGround P = P Ground

-- in any state
abbrev pub InAny : InState
InAny P = (u : Unfinished) → P u

-- The rest starts with a run of such bytes.
pub record HasRun (IsRun : List ℕ → Type 0) (rest : List ℕ) (run : ℕ) : Type 0 where
  pub some : 0 < length rest
  pub few : run ≤ length rest
  pub passes : IsRun (take run rest)

-- each of the bytes passes
abbrev pub AreAll : (ℕ → Bool) → List ℕ → Type 0
AreAll passes x = list_all passes x ≡ true

-- The rest starts with a run of such bytes, and one that ends them.
pub record HasEndedRun (IsRun : List ℕ → Type 0) (is_end : ℕ → Bool) (rest : List ℕ) (run : ℕ)
    : Type 0 where
  pub few : run < length rest
  pub passes : IsRun (take run rest)
  pub ends : is_end (slice_index rest run) ≡ true

-- The rest starts with a run of such bytes, and a control of C1 after C2.
pub record HasRunToPair (IsRun : List ℕ → Type 0) (rest : List ℕ) (run : ℕ) : Type 0 where
  pub few : run + 1 < length rest
  pub passes : IsRun (take run rest)
  pub lead : slice_index rest run ≡ 0xc2
  pub control : is_from 0x80 0x9f (slice_index rest (run + 1)) ≡ true

-- The rest starts with ESC, this byte and another.
pub record Opens (b : ℕ) (rest : List ℕ) : Type 0 where
  pub some : 2 < length rest
  pub escape : slice_index rest 0 ≡ 0x1b
  pub second : slice_index rest 1 ≡ b

abbrev pub OpensCsi : List ℕ → Type 0
OpensCsi = Opens 0x5b

abbrev pub OpensOsc : List ℕ → Type 0
OpensOsc = Opens 0x5d

-- The rest starts with a control sequence whose parameters, this many bytes, are these.
pub record StartsWithShortCsi (items : List CsiParam) (rest : List ℕ) (run : ℕ) : Type 0 where
  pub opens : OpensCsi rest
  pub few : run + 2 < length rest
  pub read : IsShort items (take run (drop 2 rest))
  pub ends : is_from 0x40 0x7e (slice_index rest (run + 2)) ≡ true

-- the machine is in the text of an operating system command, between two units
abbrev pub IsBetweenUnits : {K A : Type 0} → Machine K A → Type 0
IsBetweenUnits machine = (machine.state ≡ state.Osc) × (prefix_of machine.pending ≡ [])

-- the actor is ready, or awaits the events of the rest, where one of these is unfinished
abbrev pub MayBeGiven : {S : Type 0} → Actor S → InState → Option ℕ → List ℕ → S → Type 0
MayBeGiven V Kept limit rest old =
    V.is_ready old ⊎ Kept (λ u. Awaits V.may V.takes old (events_all limit u rest))

-- where not all strings in the rest can be borrowed
abbrev pub AtUnborrowed : List ℕ → InState → InState
AtUnborrowed rest Keeping P = Keeping (Unborrowed rest P)

-- Some of the rest was taken.
pub record TakesPart {T A S E : Type 0} (Keeping : InState) (K : Keeper T) (V : Actor S)
    (result : Result ℕ E) (rest : List ℕ) (self : Changed (Machine T A)) (actor : Changed S)
    : Type 0 where
  -- the kept unfinished segment goes on with the bytes that were taken
  pub took : Keeping (λ u. Consumes K V self.entry.now.limit result u rest self actor)
  -- one byte at least was
  pub count : Advances V result rest self actor

-- The same, and all bytes that were taken but the last emit nothing and leave a segment unfinished,
-- whichever the second says was unfinished before.
pub record TakesIn {T A S E : Type 0} (Keeping Any : InState) (K : Keeper T) (V : Actor S)
    (result : Result ℕ E) (rest : List ℕ) (self : Changed (Machine T A)) (actor : Changed S)
    : Type 0 where
  pub took : Keeping (λ u. Consumes K V self.entry.now.limit result u rest self actor)
  pub quiet : Any (λ u. Quietly self.entry.now.limit result u rest)
  pub count : Advances V result rest self actor

-- Bytes that leave nothing unfinished were taken in ground.
pub record TakesInGround {T A S E : Type 0} (K : Keeper T) (V : Actor S) (result : Result ℕ E)
    (rest : List ℕ) (self : Changed (Machine T A)) (actor : Changed S) : Type 0 where
  pub ground : StaysAtGround K result self
  pub stays : StaysInGround V result rest actor

-- The same, and the first event is that of the last byte.
pub record TakesQuietly {T A S E : Type 0} (K : Keeper T) (V : Actor S) (result : Result ℕ E)
    (rest : List ℕ) (self : Changed (Machine T A)) (actor : Changed S) : Type 0 where
  pub taken : TakesInGround K V result rest self actor
  pub quiet : (limit : Option ℕ) → Quietly limit result Ground rest
