-- These definitions count the bytes of a segment, and those kept of the last segment of a cut.
use Rattle.std.specs.Prelude.{ℕ, ◌≡◌, true, List, [], ◌∷◌, length, Option}
use Rattle.esc_frame.specs.Classes.{without_noise, bytes_of_class, is_text}
use Rattle.esc_frame.specs.Limits.{is_within, kept_within, header_count}
use Rattle.esc_frame.specs.Segments.{Segment, text_of}
use Rattle.esc_frame.specs.Segments.Segment.{Osc, Apc, Dcs, CutDcs}
use Rattle.esc_frame.specs.Segments.Ending.{Rung}

-- This is the number of bytes kept of an unfinished segment, and 0 once it has passed the limit.
-- They are the text of an OSC in UTF-8, a sequence that is broken off being the three bytes of
-- U+FFFD; the bytes 20-7F of an APC; the bytes 30-39 and 3B of a DCS's header.
abbrev pub kept_of : Option ℕ → Segment → ℕ
kept_of limit (Osc o ps Rung) = 0
kept_of limit (Osc o ps e) = kept_within limit (length (text_of ps))
kept_of limit (Apc o d) = kept_within limit (length (bytes_of_class is_text d))
kept_of limit (CutDcs o x) = kept_within limit (header_count (without_noise x))
kept_of limit _ = 0

-- the number of bytes that a cut keeps of its last segment
abbrev pub kept_of_cut : Option ℕ → List Segment → ℕ
kept_of_cut limit [] = 0
kept_of_cut limit (g ∷ []) = kept_of limit g
kept_of_cut limit (g ∷ h ∷ gs) = kept_of_cut limit (h ∷ gs)

-- the count of a segment whose events a limit may change
abbrev pub count_of : Segment → ℕ
count_of (Osc o ps e) = length (text_of ps)
count_of (Apc o d) = length (bytes_of_class is_text d)
count_of (Dcs o x f d) = header_count (without_noise x)
count_of _ = 0

-- each is within the limit
abbrev pub AreWithin : Option ℕ → List Segment → Type 0
AreWithin limit [] = Unit {0}
AreWithin limit (g ∷ gs) = (is_within limit (count_of g) ≡ true) × AreWithin limit gs
