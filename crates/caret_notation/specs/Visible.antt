-- Bytes as text that shows each of them: printable characters alone.
use Rattle.std.specs.Prelude.{ℕ, ◌+◌, ◌/◌, ◌%◌, Bool, true, not, nat_le, nat_lt, ◌==◌, ◌||◌, if◌then◌else◌, List, [], ◌∷◌, ◌++◌, length}
use Rattle.std.specs.Fmt.{digit_glyph}
use Rattle.std.specs.List.{flat_map, list_any}
use Rattle.esc_frame.specs.Sequences.{is_prefix, number_of, outcome}
use Rattle.esc_frame.specs.declared.utf8.sequence.Outcome.{Outcome}
use Rattle.esc_frame.specs.declared.utf8.sequence.Outcome.TheVariants.{Whole, More, Broken}
use Rattle.caret_notation.specs.declared.marking.Marking.{Marking}
use Rattle.caret_notation.specs.declared.marking.Marking.TheVariants as marking
use Rattle.unicode_visibility.specs.Characters.{is_shown, number_text}

-- a byte by its number, as <9D>
abbrev pub hex_byte : ℕ → List ℕ
hex_byte b = 0x3c ∷ digit_glyph true (b / 16) ∷ digit_glyph true (b % 16) ∷ 0x3e ∷ []

-- `<` and `^`, with which the notation begins, are shown by their numbers
abbrev pub is_mark : ℕ → Bool
is_mark b = (b == 0x3c) || (b == 0x5e)

abbrev pub quoted_text : ℕ → List ℕ
quoted_text b = if is_mark b then hex_byte b else b ∷ []

-- DEL as ^?
abbrev pub printed_text : ℕ → List ℕ
printed_text b = if b == 0x7f then 0x5e ∷ 0x3f ∷ [] else quoted_text b

-- a byte below 80: a control as ^X, and any other that is neither DEL nor such a mark as it is
abbrev pub ascii_text : ℕ → List ℕ
ascii_text b = if nat_lt b 0x20 then 0x5e ∷ (0x40 + b) ∷ [] else printed_text b

-- a byte that is a character by itself, or no part of one
abbrev pub single_text : ℕ → List ℕ
single_text b = if nat_lt b 0x80 then ascii_text b else hex_byte b

-- a character of two to four bytes: as it is, if it shows as itself
abbrev pub character_text : List ℕ → List ℕ
character_text x = if is_shown (number_of x) then x else number_text (number_of x)

-- bytes that are no part of a character
abbrev pub stray_text : List ℕ → List ℕ
stray_text f = flat_map hex_byte f

-- A byte after no begun character: the text that it shows, and the bytes that are begun after it.
-- The begun bytes are the first bytes of a well-formed character.
abbrev pub first_text : ℕ → List ℕ
first_text b = if is_prefix (b ∷ []) then [] else single_text b

abbrev pub first_begun : ℕ → List ℕ
first_begun b = if is_prefix (b ∷ []) then b ∷ [] else []

-- the same for a byte after these, by the outcome for them
abbrev pub next_text : List ℕ → ℕ → Outcome → List ℕ
next_text f b Whole = character_text (f ++ b ∷ [])
next_text f b More = []
next_text f b Broken = stray_text f ++ first_text b

abbrev pub next_begun : List ℕ → ℕ → Outcome → List ℕ
next_begun f b Whole = []
next_begun f b More = f ++ b ∷ []
next_begun f b Broken = first_begun b

-- for bytes after these: the text that is shown whatever follows, and the begun bytes at the end
abbrev pub settled_text : List ℕ → List ℕ → List ℕ
settled_text f [] = []
settled_text f (b ∷ s) = next_text f b (outcome f b)
    ++ settled_text (next_begun f b (outcome f b)) s

abbrev pub begun_after : List ℕ → List ℕ → List ℕ
begun_after f [] = f
begun_after f (b ∷ s) = begun_after (next_begun f b (outcome f b)) s

-- The text of bytes: each well-formed character, and each byte that is no part of one.
abbrev pub visible_text : List ℕ → List ℕ
visible_text s = settled_text [] s ++ stray_text (begun_after [] s)

-- ---- text that is told from other text

-- a span of these bytes may stay: if marks are shown, one without any
abbrev pub lets_stay : Marking → List ℕ → Bool
lets_stay marking.Plain p = true
lets_stay marking.Escaped p = not (list_any is_mark p)
lets_stay marking.Reversed p = true

-- the text before bytes that are shown, and after them: `ESC [7m` and `ESC [27m`, or nothing
abbrev pub opening : Marking → List ℕ
opening marking.Plain = []
opening marking.Escaped = []
opening marking.Reversed = 0x1b ∷ 0x5b ∷ 0x37 ∷ 0x6d ∷ []

abbrev pub closing : Marking → List ℕ
closing marking.Plain = []
closing marking.Escaped = []
closing marking.Reversed = 0x1b ∷ 0x5b ∷ 0x32 ∷ 0x37 ∷ 0x6d ∷ []

-- the text of bytes that are shown
abbrev pub shown_text : Marking → List ℕ → List ℕ
shown_text m [] = []
shown_text m (b ∷ p) = opening m ++ (visible_text (b ∷ p) ++ closing m)

-- nothing is written for a span that has not ended, until it is longer than the limit: then it
-- cannot be kept
abbrev pub rest_text : Marking → ℕ → List ℕ → List ℕ
rest_text m limit r = if nat_le (length r) limit then [] else opening m ++ settled_text [] r
