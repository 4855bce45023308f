-- Segments that are seen at once.
use Rattle.std.specs.Prelude.{ℕ, ◌≡◌, ◌==◌, ◌⊎◌, ◌<◌, ◌≤◌, Bool, true, false, List, [], ◌∷◌, ◌++◌, length, drop}
use Rattle.std.specs.List.{list_all}
use Rattle.esc_frame.specs.Bodies.{is_csi_body}
use Rattle.esc_frame.specs.Scans.{is_body_byte, is_data_byte}
use Rattle.esc_frame.specs.Segments.{Segment as Shape, HasShape, bytes_of, is_finished}
use Rattle.esc_segments.specs.declared.item.Segment.{Segment as Item}
use Rattle.esc_segments.specs.Items.{kind_of}

-- the body of a control sequence, of its form and without noise, and this final byte
pub record IsSequence (y : List ℕ) (final : ℕ) : Type 0 where
  pub body : List ℕ
  pub whole : y ≡ body ++ final ∷ []
  pub each : list_all is_body_byte body ≡ true
  pub form : is_csi_body body ≡ true
  pub low : 0x40 ≤ final
  pub high : final ≤ 0x7e

-- a control sequence after `ESC [` of such a body, and of another final byte than `m`
abbrev pub IsOther : List ℕ → Type 0
IsOther bytes = (y : List ℕ) × (f : ℕ) × (bytes ≡ 0x1b ∷ 0x5b ∷ y) × IsSequence y f
    × ((f == 0x6d) ≡ false)

-- bytes 20 to 7E, and BEL; or these bytes, which ESC follows
abbrev pub IsEnded : List ℕ → List ℕ → List ℕ → Type 0
IsEnded text y after = (y ≡ text ++ 0x07 ∷ []) ⊎ ((y ≡ text) × (after ≡ 0x1b ∷ drop 1 after))

-- the text of an operating system command of bytes 20 to 7E with what ends it, before these bytes
pub record IsCommand (y after : List ℕ) : Type 0 where
  pub text : List ℕ
  pub each : list_all is_data_byte text ≡ true
  pub ended : IsEnded text y after

-- the bytes that may end an operating system command after its text
abbrev pub is_text_end : List ℕ → Bool
is_text_end [] = true
is_text_end (a ∷ []) = a == 0x07
is_text_end _ = false

-- these bytes are those of an operating system command of this text, after `ESC ]`
abbrev pub IsTextOf : List ℕ → List ℕ → Type 0
IsTextOf bytes t = (e : List ℕ) × (bytes ≡ 0x1b ∷ 0x5d ∷ (t ++ e)) × (is_text_end e ≡ true)

-- The bytes begin with a segment that is finished, and the item is this.
pub record IsSeen (bytes : List ℕ) (x : Item) : Type 0 where
  pub head : Shape
  pub some : 0 < length x.bytes.now
  pub whole : bytes ≡ x.bytes.now ++ drop (length x.bytes.now) bytes
  pub shape : HasShape head (drop (length x.bytes.now) bytes)
  pub over : is_finished head (drop (length x.bytes.now) bytes) ≡ true
  pub kind : x.kind ≡ kind_of head
  pub bytes_are : x.bytes.now ≡ bytes_of head
  pub finished : x.finished ≡ true
