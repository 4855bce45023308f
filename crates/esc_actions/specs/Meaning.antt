-- The meaning of a stream.
use Rattle.std.specs.Prelude.{ℕ, ◌≡◌, ◌≢◌, ◌⊎◌, List, [], ◌∷◌, ◌++◌, length, drop, Option, None}
use Rattle.esc_frame.specs.Events.{Event}
use Rattle.esc_frame.specs.Memory.{MayTake}
use Rattle.esc_frame.specs.Stream.{events_within}
use Rattle.esc_actions.specs.Values.{Value, Mode, plain, mode_after, event_values}

-- the values that events give, one after another, if m is unfinished before them and no more than
-- the limit is kept of a string's data
abbrev pub values_from : {A : Type 0} → Option ℕ → Mode → List Event → List (Value A)
values_from limit m [] = []
values_from limit m (e ∷ es) = event_values limit m e ++ values_from limit (mode_after m e) es

-- the unfinished string after them
abbrev pub mode_from : Mode → List Event → Mode
mode_from m [] = m
mode_from m (e ∷ es) = mode_from (mode_after m e) es

-- the values of the events of the stream's one cut, if no more than the limit is kept of a segment;
-- the last segment may be unfinished
unfoldable pub meaning_within : {A : Type 0} → Option ℕ → List ℕ → List (Value A)
meaning_within limit s = values_from limit plain (events_within limit s)

-- the values that b adds to the meaning of s
unfoldable pub yield_within : {A : Type 0} → Option ℕ → List ℕ → List ℕ → List (Value A)
yield_within {A = A} limit s b =
    drop (length (meaning_within {A = A} limit s)) (meaning_within limit (s ++ b))

-- the same without a limit
abbrev pub meaning : {A : Type 0} → List ℕ → List (Value A)
meaning s = meaning_within None s

abbrev pub yield : {A : Type 0} → List ℕ → List ℕ → List (Value A)
yield s b = yield_within None s b

-- a call that is fed b after s may want memory: for an unfinished string or sequence, or for the
-- actions that it hands out
abbrev pub MayWant : Type 0 → Option ℕ → List ℕ → List ℕ → Type 0
MayWant A limit s b = MayTake (s ++ b) ⊎ (yield_within {A = A} limit s b ≢ [])

-- these bytes mean these values, and any bytes after them have their own meaning
abbrev pub Reads : {A : Type 0} → List ℕ → List (Value A) → Type 0
Reads t vs = (rest : List ℕ) → meaning (t ++ rest) ≡ vs ++ meaning rest
