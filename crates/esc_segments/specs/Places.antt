-- The segment that is found first in some bytes. Only private contracts cite it.
use Rattle.std.specs.Prelude.{ℕ, ◌≡◌, ◌+◌, ◌<◌, ◌≤◌, Bool, true, false, List, [], ◌∷◌, ◌++◌, length, slice_index, take, drop}
use Rattle.esc_segments.specs.declared.kind.SegmentKind.{SegmentKind}
use Rattle.esc_segments.specs.declared.found.Found.{Found}
use Rattle.esc_segments.specs.declared.sequence.Ahead.{Ahead}
use Rattle.esc_segments.specs.declared.sequence.Ahead.TheVariants as ahead
use Rattle.esc_segments.specs.declared.text.Unit.{Unit as TextUnit}
use Rattle.esc_segments.specs.declared.text.Unit.TheVariants as units
use Rattle.esc_frame.specs.declared.classes.Kind.{Kind}
use Rattle.esc_frame.specs.Classes.{class_of, is_raw}
use Rattle.esc_frame.specs.Sequences.{is_sequence, is_prefix, is_pair, is_broken_before}
use Rattle.esc_frame.specs.Segments.{Segment, Opener, OscUnit, IsOpener, HasShape, AreOscUnits, opener, bytes_of, text_bytes, is_finished, breaks_text, after_c2}
use Rattle.esc_segments.specs.Items.{kind_of}

abbrev pub found_at : SegmentKind → ℕ → Bool → Found
found_at kind len finished = record { kind = kind; len = len; finished = finished }

-- with so many bytes more before it
abbrev pub found_further : ℕ → Found → Found
found_further n x = record { kind = x.kind; len = n + x.len; finished = x.finished }

-- the first segment of the bytes
pub record IsFirst (bytes : List ℕ) (x : Found) : Type 0 where
  pub g : Segment
  pub after : List ℕ
  pub whole : bytes ≡ bytes_of g ++ after
  pub shape : HasShape g after
  pub kind : x.kind ≡ kind_of g
  pub len : x.len ≡ length (bytes_of g)
  pub finished : x.finished ≡ is_finished g after
  pub last : x.finished ≡ false → after ≡ []

-- after any opener of this kind
abbrev pub IsOpened : Kind → List ℕ → Found → Type 0
IsOpened k body x = (o : Opener) → IsOpener o
    → IsFirst (opener k o ++ body) (found_further (length (opener k o)) x)

-- after this control, raw and after C2
abbrev pub IsRaw : ℕ → List ℕ → Found → Type 0
IsRaw b body x = (p : Bool) → IsFirst (after_c2 p b ++ body)
    (found_further (length (after_c2 p b)) x)

-- The first byte is from a to b, and n bytes at least follow it.
pub record HasLead (n a b : ℕ) (bytes : List ℕ) : Type 0 where
  pub some : n < length bytes
  pub low : a ≤ slice_index bytes 0
  pub high : slice_index bytes 0 ≤ b

-- the sequence of UTF-8 that comes first
abbrev pub IsSequence : List ℕ → Ahead → Type 0
IsSequence bytes (ahead.Whole n) =
    (0 < n) × (n ≤ length bytes) × (is_sequence (take n bytes) ≡ true)
    × (is_pair (take n bytes) ≡ false)
IsSequence bytes (ahead.Broken n) =
    (0 < n) × (n ≤ length bytes) × (is_prefix (take n bytes) ≡ true)
    × (is_broken_before (take n bytes) (drop n bytes) ≡ true)
IsSequence bytes ahead.Pending = is_prefix bytes ≡ true
IsSequence bytes (ahead.Control b) = (is_raw (class_of b) ≡ true) × (take 2 bytes ≡ 0xc2 ∷ b ∷ [])
    × (2 ≤ length bytes)

-- the first unit in the text of an OSC
abbrev pub IsUnit : List ℕ → TextUnit → Type 0
IsUnit text (units.Kept n) =
    (0 < n) × (n ≤ length text) × ((ps : List OscUnit) × (text_bytes ps ≡ take n text)
    × AreOscUnits ps (drop n text))
IsUnit text units.Bell = text ≡ 0x07 ∷ drop 1 text
IsUnit text units.Breaker = breaks_text text ≡ true
IsUnit text units.Pending = is_prefix text ≡ true

-- whole units come first, so many bytes
abbrev pub IsText : List ℕ → ℕ → Type 0
IsText text n = (ps : List OscUnit) × (text_bytes ps ≡ take n text) × AreOscUnits ps (drop n text)
