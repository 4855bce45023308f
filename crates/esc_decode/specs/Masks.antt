-- A stream of UTF-8 in which no raw control of C1 is left, by Unicode's table of well-formed
-- sequences.
use Rattle.std.specs.Prelude.{ℕ, ◌≡◌, Bool, false, ◌⊎◌, if◌then◌else◌, List, [], ◌∷◌, ◌++◌, true}
use Rattle.esc_frame.specs.Machine.Prefixes.{prefix_of}
use Rattle.esc_frame.specs.Sequences.{is_from, is_prefix, outcome}
use Rattle.esc_frame.specs.Segments.{Segment, bytes_of}
use Rattle.esc_frame.specs.Segments.Segment.{Apc, CutCsi, CutDcs, CutEscape, Dcs, Ignored}
use Rattle.esc_frame.specs.declared.utf8.sequence.Outcome.{Outcome}
use Rattle.esc_frame.specs.declared.utf8.sequence.Outcome.TheVariants.{Whole, More, Broken}
use Rattle.esc_decode.specs.declared.mask.Mask.{Mask}

-- a control of C1 as one byte
abbrev pub is_raw : ℕ → Bool
is_raw b = is_from 0x80 0x9f b

-- A byte that goes on no character: FF, which is in no character and no control, in place of a
-- control.
abbrev pub lone_mask : ℕ → ℕ
lone_mask b = if is_raw b then 0xff else b

-- the byte that a byte becomes, by its outcome after the begun bytes: a part of a character stays
abbrev pub masked_byte : ℕ → Outcome → ℕ
masked_byte b Whole = b
masked_byte b More = b
masked_byte b Broken = lone_mask b

-- The begun bytes after a byte: the first bytes of a well-formed character.
abbrev pub first_begun : ℕ → List ℕ
first_begun b = if is_prefix (b ∷ []) then b ∷ [] else []

abbrev pub next_begun : List ℕ → ℕ → Outcome → List ℕ
next_begun f b Whole = []
next_begun f b More = f ++ b ∷ []
next_begun f b Broken = first_begun b

-- the same for bytes, if these have begun before them
abbrev pub masked_after : List ℕ → List ℕ → List ℕ
masked_after f [] = []
masked_after f (b ∷ s) =
    masked_byte b (outcome f b) ∷ masked_after (next_begun f b (outcome f b)) s

abbrev pub begun_after : List ℕ → List ℕ → List ℕ
begun_after f [] = f
begun_after f (b ∷ s) = begun_after (next_begun f b (outcome f b)) s

abbrev pub masked_bytes : List ℕ → List ℕ
masked_bytes s = masked_after [] s

-- ---- the words of the laws

-- each byte of the second is that of the first in its place, or FF in place of a raw control
abbrev pub IsMaskOf : List ℕ → List ℕ → Type 0
IsMaskOf [] [] = Unit {0}
IsMaskOf [] (c ∷ t) = ⊥
IsMaskOf (b ∷ s) [] = ⊥
IsMaskOf (b ∷ s) (c ∷ t) =
    ((c ≡ b) ⊎ ((is_raw b ≡ true) × (c ≡ 0xff))) × IsMaskOf s t

-- A sequence that is cut short, or a string that is no operating system command. The framing takes
-- each byte of it for itself.
abbrev pub is_bytewise : Segment → Bool
is_bytewise (CutEscape x) = true
is_bytewise (CutCsi o x) = true
is_bytewise (CutDcs o x) = true
is_bytewise (Dcs o x f d) = true
is_bytewise (Apc o d) = true
is_bytewise (Ignored k o d) = true
is_bytewise _ = false

-- it begins with a raw control, which is such a control or its opener
abbrev pub first_is_raw : List ℕ → Bool
first_is_raw [] = false
first_is_raw (b ∷ _) = is_raw b

abbrev pub begins_raw : Segment → Bool
begins_raw g = first_is_raw (bytes_of g)

-- ---- one byte after another

-- this is known of the stream that it was fed
abbrev pub HasConsumed : List ℕ → Mask → Type 0
HasConsumed s m = prefix_of m.begun ≡ begun_after [] s

-- these bytes stay, and leave nothing begun
abbrev pub Stay : List ℕ → Type 0
Stay x = (masked_after [] x ≡ x) × (begun_after [] x ≡ [])
