-- Streams whose strings have room in a memory.
use Rattle.std.specs.Prelude.{ℕ, ◌≤◌, List, [], ◌∷◌}
use Rattle.esc_frame.specs.Classes.{without_noise}
use Rattle.esc_frame.specs.Counts.{count_of}
use Rattle.esc_frame.specs.Limits.{header_count}
use Rattle.esc_frame.specs.Segments.{Segment}
use Rattle.esc_frame.specs.Segments.Segment.{CutDcs}

-- the most bytes of a segment that are kept, also of a header of a device control string that is
-- cut short
abbrev pub most_kept : Segment → ℕ
most_kept (CutDcs o x) = header_count (without_noise x)
most_kept g = count_of g

-- at most `limit` bytes of each of these segments are kept
abbrev pub AreShort : ℕ → List Segment → Type 0
AreShort limit [] = Unit {0}
AreShort limit (g ∷ gs) = (most_kept g ≤ limit) × AreShort limit gs
