-- A call of an `EventSink` requires and promises this.
use Rattle.std.specs.Prelude.{Result, OnOk, List, ◌⊎◌}
use Rattle.esc_frame.specs.Events.{Event, Receives, Takes}

-- it is ready for any event, or awaits this one
abbrev pub MayGetOne : {S : Type 0} → (S → Type 0) → (S → Event → Type 0) → S → Event → Type 0
MayGetOne is_ready may old event = is_ready old ⊎ may old event

-- a call with one event
pub record TakesOne {S E : Type 0} (takes refuses : S → Event → S → Type 0) (is_ready : S → Type 0)
    (result : Result (Unit {0}) E) (old : S) (event : Event) (new : S) : Type 0 where
  -- it took the event, or refused it where the result is an error
  pub receives : Receives takes refuses result old event new
  -- it stays ready for any
  pub ready : is_ready old → OnOk result (is_ready new)

-- a call with some
pub record TakesAll {S E : Type 0} (own : Type 0) (takes refuses : S → Event → S → Type 0)
    (is_ready : S → Type 0) (result : Result (Unit {0}) E) (old : S) (events : List Event)
    (new : S) : Type 0 where
  -- it took the events, or a prefix of them where the result is an error, and stopped by itself
  -- only where `own` holds
  pub emitted : Takes own takes refuses result old events new
  -- it stays ready for any
  pub ready : is_ready old → OnOk result (is_ready new)
