-- Characters that deceive, those that show as themselves, and the text of any other.
use Rattle.std.specs.Prelude.{ℕ, Bool, true, not, nat_le, nat_lt, ◌==◌, ◌&&◌, ◌||◌, ◌/◌, ◌%◌, if◌then◌else◌, List, [], ◌∷◌, ◌++◌, codes}
use Rattle.std.specs.Fmt.{digit_glyph}
use Rattle.ucd_derived.specs.Binary.{is_default_ignorable_code_point}
use Rattle.ucd_props.specs.Binary.{is_bidi_control}

-- a character that is not shown, changes the order of those around it, or separates lines or
-- paragraphs
unfoldable pub is_deceiving : ℕ → Bool
is_deceiving c = is_default_ignorable_code_point c
    || (is_bidi_control c || ((c == 0x2028) || (c == 0x2029)))

-- a character from the first to the last
abbrev pub is_among : ℕ → ℕ → ℕ → Bool
is_among low high c = nat_le low c && nat_le c high

-- a character that marks an interlinear annotation, and those kept for such
abbrev pub is_annotation : ℕ → Bool
is_annotation c = is_among 0xfff0 0xfffb c

-- A character that shows as itself: U+0020 to U+007E, and from U+00A0 on, so neither C0, DEL nor
-- C1; none that deceives, and no mark of an annotation.
abbrev pub is_shown : ℕ → Bool
is_shown c = is_among 0x20 0x7e c
    || (nat_le 0xa0 c && (not (is_deceiving c) && not (is_annotation c)))

-- the hexadecimal digit at the place that is worth p, in upper case
abbrev pub digit_at : ℕ → ℕ → ℕ
digit_at p c = digit_glyph true (c / p % 16)

-- the last four digits of a number
abbrev pub four_digits : ℕ → List ℕ
four_digits c = digit_at 0x1000 c ∷ digit_at 0x100 c ∷ digit_at 0x10 c
    ∷ digit_glyph true (c % 16) ∷ []

-- the digits before these, without zeros before them
abbrev pub leading : ℕ → List ℕ
leading c =
    if nat_lt c 0x10000 then []
    else if nat_lt c 0x100000 then digit_at 0x10000 c ∷ []
    else digit_at 0x100000 c ∷ digit_at 0x10000 c ∷ []

-- the text of a character by its number: `<U+202E>`
unfoldable pub number_text : ℕ → List ℕ
number_text c = codes "<U+" ++ (leading c ++ (four_digits c ++ 0x3e ∷ []))
