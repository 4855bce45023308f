-- A stream in an 8-bit encoding as UTF-8.
use Rattle.std.specs.Prelude.{ℕ, ◌-◌, nat_lt, if◌then◌else◌, Bool, List, get_or, map}
use lib.Utf8.{scalar}
use Rattle.esc_decode.specs.Spellings.{no_character, spell_all}
use Rattle.esc_decode.specs.declared.code_page.CodePage.{CodePage}
use Rattle.esc_decode.specs.declared.code_page.CodePage.TheVariants.{Latin1, Latin1WithControls, Windows1250, Windows1251, Windows1252, Windows1253, Windows1254, Windows1255, Windows1256, Windows1257, Windows1258}
use Rattle.esc_decode.specs.declared.tables.TheConstants.{LATIN_1, LATIN_1_WITH_CONTROLS, WINDOWS_1250, WINDOWS_1251, WINDOWS_1252, WINDOWS_1253, WINDOWS_1254, WINDOWS_1255, WINDOWS_1256, WINDOWS_1257, WINDOWS_1258}

abbrev pub table_of : CodePage → List ℕ
table_of Latin1 = LATIN_1
table_of Latin1WithControls = LATIN_1_WITH_CONTROLS
table_of Windows1250 = WINDOWS_1250
table_of Windows1251 = WINDOWS_1251
table_of Windows1252 = WINDOWS_1252
table_of Windows1253 = WINDOWS_1253
table_of Windows1254 = WINDOWS_1254
table_of Windows1255 = WINDOWS_1255
table_of Windows1256 = WINDOWS_1256
table_of Windows1257 = WINDOWS_1257
table_of Windows1258 = WINDOWS_1258

-- the code point of a byte, by the table of those from 80 on: a surrogate if it has no character
abbrev pub point_in : List ℕ → ℕ → ℕ
point_in t b = if nat_lt b 0x80 then b else get_or t (b - 0x80) no_character

abbrev pub has_character : CodePage → ℕ → Bool
has_character p b = scalar (point_in (table_of p) b)

-- its character; U+FFFD if it has none
abbrev pub character_in : List ℕ → ℕ → ℕ
character_in t b = if scalar (point_in t b) then point_in t b else 0xfffd

-- the UTF-8 of the characters of bytes, and FF for a byte that has none
abbrev pub read_in : List ℕ → List ℕ → List ℕ
read_in t s = spell_all (map (point_in t) s)

abbrev pub read_by : CodePage → List ℕ → List ℕ
read_by p s = read_in (table_of p) s
