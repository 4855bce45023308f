-- A stream of UTF-16 as UTF-8.
use Rattle.std.specs.Prelude.{ℕ, ◌+◌, ◌*◌, ◌%◌, nat_le, nat_lt, ◌==◌, ◌&&◌, Bool, false, true, if◌then◌else◌, List, [], ◌∷◌, ◌++◌, Option, None, Some}
use Rattle.esc_decode.specs.Spellings.{no_character, spell_all}
use Rattle.esc_decode.specs.declared.utf16.Utf16.{Utf16}

-- ---- units

-- a unit of two bytes; the first is the lower or the higher
abbrev pub unit : Bool → ℕ → ℕ → ℕ
unit little a b = if little then a + 0x100 * b else b + 0x100 * a

-- the units of bytes, if this byte of one has come before them
abbrev pub units_after : Bool → Option ℕ → List ℕ → List ℕ
units_after little odd [] = []
units_after little None (b ∷ s) = units_after little (Some b) s
units_after little (Some a) (b ∷ s) = unit little a b ∷ units_after little None s

-- the byte of a unit that is left after them
abbrev pub odd_after : Option ℕ → List ℕ → Option ℕ
odd_after odd [] = odd
odd_after None (b ∷ s) = odd_after (Some b) s
odd_after (Some a) (b ∷ s) = odd_after None s

-- ---- code points

-- the first and the second unit of a pair
abbrev pub is_high : ℕ → Bool
is_high u = nat_le 0xd800 u && nat_lt u 0xdc00

abbrev pub is_low : ℕ → Bool
is_low u = nat_le 0xdc00 u && nat_lt u 0xe000

-- the character of a pair: ten bits of each
abbrev pub pair : ℕ → ℕ → ℕ
pair h l = 0x10000 + 0x400 * (h % 0x400) + l % 0x400

-- The code points that a unit ends, if this first one of a pair has come before it. One that is no
-- part of a pair is a surrogate, and so no character.
abbrev pub given_alone : ℕ → List ℕ
given_alone u = if is_high u then [] else u ∷ []

abbrev pub unit_utf8 : Option ℕ → ℕ → List ℕ
unit_utf8 None u = given_alone u
unit_utf8 (Some h) u = if is_low u then pair h u ∷ [] else h ∷ given_alone u

-- the first one of a pair that is left after it
abbrev pub left_alone : ℕ → Option ℕ
left_alone u = if is_high u then Some u else None

abbrev pub unit_left : Option ℕ → ℕ → Option ℕ
unit_left None u = left_alone u
unit_left (Some h) u = if is_low u then None else left_alone u

-- the same for units, one after another
abbrev pub given_after : Option ℕ → List ℕ → List ℕ
given_after h [] = []
given_after h (u ∷ us) = unit_utf8 h u ++ given_after (unit_left h u) us

abbrev pub left_after : Option ℕ → List ℕ → Option ℕ
left_after h [] = h
left_after h (u ∷ us) = left_after (unit_left h u) us

-- an unfinished unit or pair at the end of a stream is no character
abbrev pub cut_short : Option ℕ → Option ℕ → List ℕ
cut_short None None = []
cut_short _ _ = no_character ∷ []

-- ---- streams

-- the code points that are known of a stream that goes on
abbrev pub code_points : Bool → List ℕ → List ℕ
code_points little s = given_after None (units_after little None s)

-- and of one that has ended
abbrev pub all_code_points : Bool → List ℕ → List ℕ
all_code_points little s = code_points little s
    ++ cut_short (odd_after None s) (left_after None (units_after little None s))

abbrev pub utf16_text : Bool → List ℕ → List ℕ
utf16_text little s = spell_all (code_points little s)

-- whether the lower byte of a unit comes first by these two, if they are a byte order mark
abbrev pub mark_of : ℕ → ℕ → Option Bool
mark_of a b =
    if (a == 0xff) && (b == 0xfe) then Some true
    else if (a == 0xfe) && (b == 0xff) then Some false
    else None

-- ---- in chunks

-- at the beginning of a stream
abbrev pub fresh_units : Bool → Utf16
fresh_units little = record { is_little = little; odd = None; high = None }

-- the state that is kept after more bytes
abbrev pub after : Utf16 → List ℕ → Utf16
after u s = record {
  is_little = u.is_little;
  odd = odd_after u.odd s;
  high = left_after u.high (units_after u.is_little u.odd s);
}

-- the text that they add
abbrev pub unit_text : Utf16 → List ℕ → List ℕ
unit_text u s = spell_all (given_after u.high (units_after u.is_little u.odd s))
