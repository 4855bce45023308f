-- Streams that a limit does not change.
use Rattle.std.specs.Prelude.{ℕ, ◌≡◌, true, false, List, [], ◌∷◌, Option}
use Rattle.esc_frame.specs.Counts.{AreWithin}
use Rattle.esc_frame.specs.Limits.{is_within, kept_within}
use Rattle.esc_frame.specs.Segments.{Segment, IsCut, events_of}
use Rattle.esc_frame.specs.Stream.{events_within}
use Rattle.esc_actions.specs.Meaning.{mode_from}
use Rattle.esc_actions.specs.Values.{data_count, plain}

-- how many bytes are kept of the data of a device control string that is unfinished
abbrev pub data_kept : Option ℕ → List ℕ → ℕ
data_kept limit s = kept_within limit (data_count (mode_from plain (events_within limit s)))

-- the data of a segment that is kept until its end is within the limit
abbrev pub IsDataWithin : Option ℕ → Segment → Type 0
IsDataWithin limit g = is_within limit (data_count (mode_from plain (events_of g false))) ≡ true

abbrev pub AreDataWithin : Option ℕ → List Segment → Type 0
AreDataWithin limit [] = Unit {0}
AreDataWithin limit (g ∷ gs) = IsDataWithin limit g × AreDataWithin limit gs

-- all that counts of the segments of a stream is within the limit
abbrev pub IsWithin : Option ℕ → List ℕ → Type 0
IsWithin limit s = (gs : List Segment) × IsCut s gs × AreWithin limit gs × AreDataWithin limit gs
