-- The text that is written for a word of unknown origin.
use Rattle.std.specs.Prelude.{ℕ, ◌≡◌, ◌/◌, ◌%◌, ◌==◌, ◌&&◌, Bool, true, false, not, if◌then◌else◌, List, [], ◌∷◌, ◌++◌, codes}
use Rattle.std.specs.Char.{encode_utf8}
use Rattle.std.specs.Fmt.{digit_glyph, digits}
use Rattle.std.specs.List.{list_all}
use Rattle.std.specs.Str.{chars, encode_utf8_all}
use Rattle.unicode_visibility.specs.Characters.{is_shown}

-- a character that is written as itself: it shows as itself, and is no backslash
abbrev pub is_plain : ℕ → Bool
is_plain c = is_shown c && not (c == 0x5c)

-- another: `\t`, `\n`, `\r`, `\\`, or its number, as `\u{202e}`
abbrev pub escaped_character : ℕ → List ℕ
escaped_character c =
    if c == 0x09 then codes "\\t"
    else if c == 0x0a then codes "\\n"
    else if c == 0x0d then codes "\\r"
    else if c == 0x5c then codes "\\\\"
    else codes "\\u{" ++ (digits 16 false c ++ codes "}")

-- a byte that is no part of a character, as `\xe9`
abbrev pub byte_shown : ℕ → List ℕ
byte_shown b = codes "\\x" ++ digit_glyph false (b / 16 % 16) ∷ digit_glyph false (b % 16) ∷ []

-- a character of a word, if it is said whether it stands for a byte: U+0000 comes before such a
-- one, and is not written
abbrev pub shown_character : Bool → ℕ → List ℕ
shown_character is_byte c =
    if is_byte then byte_shown c
    else if c == 0 then []
    else if is_plain c then encode_utf8 c
    else escaped_character c

-- are characters, the first of which may stand for a byte
abbrev pub shown_from : Bool → List ℕ → List ℕ
shown_from is_byte [] = []
shown_from is_byte (c ∷ cs) = shown_character is_byte c ++ shown_from ((c == 0) && not is_byte) cs

abbrev pub word_shown : List ℕ → List ℕ
word_shown w = shown_from false (chars w)

-- holds of a text, each character of which shows as itself
abbrev pub IsShown : List ℕ → Type 0
IsShown t = (cs : List ℕ) × (list_all is_shown cs ≡ true) × (encode_utf8_all cs ≡ t)
