-- The events of a stream, and which streams lead to a parser.
use Rattle.std.specs.Prelude.{ℕ, ◌≡◌, ◌<◌, ◌⊎◌, true, false, List, [], ◌∷◌, ◌++◌, length, take, drop, Option, None}
use Rattle.esc_frame.specs.declared.parser.VTParser.{VTParser}
use Rattle.esc_frame.specs.Events.{Event}
use Rattle.esc_frame.specs.Segments.{Segment, IsCut, ends_itself, joined_bytes}
use Rattle.esc_frame.specs.Leads.{AreFinished, Holds}
use Rattle.esc_frame.specs.Leads.Unfinished.{Ground}
use Rattle.esc_frame.specs.Machine.Keeps.{KeepsText}
use Rattle.esc_frame.specs.Machine.Moves.{after_all, events_all}

-- The events of a stream, where of each string no more is kept than the limit: of a longer one only
-- the controls in its opener are emitted. The laws `events_of_the_cut_within` and
-- `events_once_within` fix it: they are those that the stream's one cut emits, and no others. The
-- body takes byte after byte as the code does.
unfoldable pub events_within : Option ℕ → List ℕ → List Event
events_within limit s = events_all limit Ground s

-- the events that b adds to those of s
unfoldable pub added_within : Option ℕ → List ℕ → List ℕ → List Event
added_within limit s b = drop (length (events_within limit s)) (events_within limit (s ++ b))

-- The parser, which keeps no more of a string than the limit, may have been fed the stream: it
-- keeps the stream's unfinished segment, and has not failed.
unfoldable pub HasConsumedWithin : {A : Type 0} → Option ℕ → List ℕ → VTParser A → Type 0
HasConsumedWithin limit s p = (p.has_failed ≡ false) × (p.machine.limit ≡ limit)
    × Holds KeepsText p.machine.limit p.machine (after_all Ground s)

-- an earlier call of the parser returned `Memory`
unfoldable pub HasFailed : {A : Type 0} → VTParser A → Type 0
HasFailed p = p.has_failed ≡ true

-- the stream's cut has no unfinished segment
abbrev pub IsAtGround : List ℕ → Type 0
IsAtGround s = (gs : List Segment) × IsCut s gs × AreFinished gs []

-- The stream is finished segments, and then u. So u is the stream, or its rest after some of its
-- segments; the shortest such rest is its unfinished part.
abbrev pub IsAfterFinished : List ℕ → List ℕ → Type 0
IsAfterFinished s u = (gs : List Segment) × (s ≡ joined_bytes gs ++ u) × AreFinished gs u

-- says that u is the unfinished part of the stream: nothing, or a segment that does not end itself
abbrev pub IsUnfinished : List ℕ → List ℕ → Type 0
IsUnfinished s u =
    IsAfterFinished s u
    × ((u ≡ []) ⊎ ((g : Segment) × IsCut u (g ∷ []) × (ends_itself g ≡ false)))

-- each of the first n bytes that follow s but the last adds no event, and leaves a segment
-- unfinished
abbrev pub IsQuietWithin : Option ℕ → List ℕ → List ℕ → ℕ → Type 0
IsQuietWithin limit s b n = (k : ℕ) → 0 < k → k < n → (added_within limit s (take k b) ≡ [])
    × (IsAtGround (s ++ take k b) → ⊥)

-- ---- without a limit

abbrev pub events : List ℕ → List Event
events s = events_within None s

abbrev pub added_events : List ℕ → List ℕ → List Event
added_events s b = added_within None s b

abbrev pub HasConsumed : {A : Type 0} → List ℕ → VTParser A → Type 0
HasConsumed s p = HasConsumedWithin None s p

abbrev pub IsQuiet : List ℕ → List ℕ → ℕ → Type 0
IsQuiet s b n = IsQuietWithin None s b n

-- These bytes have these events, and any bytes after them have their own.
abbrev pub Says : List ℕ → List Event → Type 0
Says t es = (rest : List ℕ) → events (t ++ rest) ≡ es ++ events rest
