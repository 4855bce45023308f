-- Segments of which a limit leaves nothing out.
use Rattle.std.specs.Prelude.{ℕ, ◌≡◌, ◌*◌, ◌≤◌, Bool, true, false, List, length}
use Rattle.esc_segments.specs.declared.kind.SegmentKind.{SegmentKind}
use Rattle.esc_segments.specs.declared.kind.SegmentKind.TheVariants as kinds

abbrev pub is_dcs : SegmentKind → Bool
is_dcs kinds.Dcs = true
is_dcs _ = false

-- no device control string, and so few bytes: a string keeps at most three for each
abbrev pub IsShort : ℕ → SegmentKind → List ℕ → Type 0
IsShort limit k bytes = (is_dcs k ≡ false) × (3 * length bytes ≤ limit)
