-- Segments whose reading may want memory.
use Rattle.std.specs.Prelude.{◌≡◌, ◌≢◌, ◌⊎◌, Bool, true, []}
use Rattle.esc_actions.specs.Readings.{reading}
use Rattle.esc_frame.specs.Memory.{may_take}
use Rattle.esc_frame.specs.Segments.{Segment}

-- the segment is a control sequence, a string or one of them cut short, or it has a reading
abbrev pub MayWantToRead : Type 0 → Segment → Bool → Type 0
MayWantToRead A g finished = (may_take g ≡ true) ⊎ (reading {A = A} g finished ≢ [])
