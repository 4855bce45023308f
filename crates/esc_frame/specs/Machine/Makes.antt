-- A call does this, said of a store and an actor (`K.TextRoom`, `V.EventSink`), and of the machine
-- and the actor before and after it (`self`, `actor`). No contract of `VTParser` cites it.
use Rattle.std.specs.Prelude.{ℕ, ◌≡◌, Bool, List, Option, None, Result, IfOk, OnOk}
use Rattle.esc_frame.specs.declared.taker.EventSink.{Ghosts as Actor}
use Rattle.esc_frame.specs.declared.machine.Machine.{Machine}
use Rattle.esc_frame.specs.declared.unfinished.store.TextRoom.{Ghosts as Keeper}
use Rattle.esc_frame.specs.Changed.{Changed}
use Rattle.esc_frame.specs.Events.{Event, MayGet, Receives, Takes}
use Rattle.esc_frame.specs.Leads.{Unfinished, Holds}
use Rattle.esc_frame.specs.Leads.Unfinished.{Ground}
use Rattle.esc_frame.specs.Machine.Calls as calls
use Rattle.esc_frame.specs.Machine.Moves.{Move}

-- the actor may be given these events
abbrev pub MayEmit : {S : Type 0} → Actor S → List Event → S → Type 0
MayEmit V events old = MayGet V.is_ready V.may V.takes old events

-- those of these bytes, where u was unfinished before
abbrev pub MayEmitAll : {S : Type 0} → Actor S → Unfinished → List ℕ → S → Type 0
MayEmitAll V u rest old = calls.MayRun V.is_ready V.may V.takes u rest old

-- the actor was given this event, or refused it where the result is an error
abbrev pub EmitsOne : {S E : Type 0} → Actor S → Result (Unit {0}) E → Event → Changed S → Type 0
EmitsOne V result event actor =
    Receives V.takes V.refuses result actor.entry.now event actor.exit.now

-- these events, or a prefix of them after an error, which is the actor's unless `own` holds
abbrev pub Emits : {S E : Type 0} → Actor S → Type 0 → Result (Unit {0}) E → List Event → Changed S
    → Type 0
Emits V own result events actor =
    Takes own V.takes V.refuses result actor.entry.now events actor.exit.now

-- says that one move was made: the unfinished segment after it is kept, and the events are emitted
abbrev pub Makes : {K A S E : Type 0} → Keeper K → Actor S → Option ℕ → Bool
    → Result (Unit {0}) E → Move → Changed (Machine K A) → Changed S
    → Type 0
Makes {A} K V limit own result move self actor =
    calls.Moved K.keeps (calls.Fails K.may_fail V.stops A) limit own V.takes V.refuses result move
    self.exit.now
    actor.entry.now actor.exit.now

-- the same under any limit, whoever may stop it
abbrev pub AlwaysMakes : {K A S E : Type 0} → Keeper K → Actor S
    → Result (Unit {0}) E → Move → Changed (Machine K A) → Changed S
    → Type 0
AlwaysMakes K V result move self actor =
    (limit : Option ℕ) (own : Bool) → Makes K V limit own result move self actor

-- the moves of the first n bytes of the rest, n being the result, where u was unfinished before
abbrev pub Consumes : {K A S E : Type 0} → Keeper K → Actor S → Option ℕ
    → Result ℕ E → Unfinished → List ℕ → Changed (Machine K A) → Changed S
    → Type 0
Consumes {A} K V limit result u rest self actor =
    calls.Took K.keeps (calls.Fails K.may_fail V.stops A) limit V.takes V.refuses result u rest
    self.exit.now
    actor.entry.now actor.exit.now

-- says the same in ground, of at least one byte, none of which but the last emits an event
abbrev pub ConsumesSome : {K A S E : Type 0} → Keeper K → Actor S → Option ℕ
    → Result ℕ E → List ℕ → Changed (Machine K A) → Changed S
    → Type 0
ConsumesSome {A} K V limit result rest self actor =
    calls.TookSome K.keeps (calls.Fails K.may_fail V.stops A) limit V.takes V.refuses V.is_ready
    result rest self.entry.now self.exit.now
    actor.entry.now actor.exit.now

-- bytes that leave nothing unfinished in ground: their events are emitted
abbrev pub StaysInGround : {S E : Type 0} → Actor S → Result ℕ E → List ℕ → Changed S → Type 0
StaysInGround V result rest actor =
    calls.Stays V.takes V.refuses V.is_ready result rest actor.entry.now actor.exit.now

-- the machine is in ground, and keeps its limit
abbrev pub StaysAtGround : {K A T E : Type 0} → Keeper K → Result T E → Changed (Machine K A)
    → Type 0
StaysAtGround K result self =
    IfOk result (λ n. Holds K.keeps None self.exit.now Ground
    × (self.exit.now.limit ≡ self.entry.now.limit))

-- the machine keeps its limit, and the actor stays ready
abbrev pub StaysReady : {K A S T E : Type 0} → Actor S → Result T E → Changed (Machine K A)
    → Changed S → Type 0
StaysReady V result self actor =
    (self.exit.now.limit ≡ self.entry.now.limit)
    × (V.is_ready actor.entry.now → OnOk result (V.is_ready actor.exit.now))

-- one byte at least was consumed, and no more than there are, the machine keeps its limit, and the
-- actor stays ready
abbrev pub Advances : {K A S E : Type 0} → Actor S → Result ℕ E → List ℕ → Changed (Machine K A)
    → Changed S → Type 0
Advances V result rest self actor =
    calls.Advances V.is_ready result rest self.entry.now self.exit.now
    actor.entry.now actor.exit.now
