-- The meaning of segments, each by itself.
use Rattle.std.specs.Prelude.{ℕ, ◌≡◌, Bool, true, List, [], ◌∷◌, ◌++◌, Option, None}
use Rattle.esc_frame.specs.Segments.{Segment, IsCut, events_of_within, ends_itself, is_finished, joined_bytes}
use Rattle.esc_actions.specs.Meaning.{meaning_within, values_from}
use Rattle.esc_actions.specs.Values.{Value, plain}

-- the reading of a segment: the values of its events, with nothing unfinished before them
abbrev pub reading_within : {A : Type 0} → Option ℕ → Segment → Bool → List (Value A)
reading_within limit g finished = values_from limit plain (events_of_within limit g finished)

-- the readings of a cut's segments, in order: each but the last is finished
abbrev pub readings_within : {A : Type 0} → Option ℕ → List Segment → List (Value A)
readings_within limit [] = []
readings_within limit (g ∷ []) = reading_within limit g (ends_itself g)
readings_within limit (g ∷ h ∷ gs) = reading_within limit g true ++ readings_within limit (h ∷ gs)

-- the same without a limit
abbrev pub reading : {A : Type 0} → Segment → Bool → List (Value A)
reading g finished = reading_within None g finished

abbrev pub readings : {A : Type 0} → List Segment → List (Value A)
readings gs = readings_within None gs

-- a stream means the readings of its cut
abbrev pub MeansItsCut : Type 0 → Type 0
MeansItsCut A = (limit : Option ℕ) (s : List ℕ) (gs : List Segment) → IsCut s gs
    → meaning_within {A = A} limit s ≡ readings_within limit gs

-- The readings of segments, in order, each of a segment by itself: it is finished if the bytes
-- after it here finish it.
abbrev pub readings_of_each : {A : Type 0} → Option ℕ → List Segment → List (Value A)
readings_of_each limit [] = []
readings_of_each limit (g ∷ gs) =
    reading_within limit g (is_finished g (joined_bytes gs)) ++ readings_of_each limit gs

-- a stream means the readings of the segments of its cut, each by itself
abbrev pub MeansItsSegments : Type 0 → Type 0
MeansItsSegments A = (limit : Option ℕ) (gs : List Segment) → IsCut (joined_bytes gs) gs
    → meaning_within {A = A} limit (joined_bytes gs) ≡ readings_of_each limit gs
