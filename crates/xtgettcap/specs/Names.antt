-- The names of capabilities that a termcap query asks for: how they are read and written.
use Rattle.std.specs.Prelude.{ℕ, ◌≡◌, ◌≢◌, ◌/◌, ◌%◌, ◌==◌, ◌||◌, nat_le, ◌&&◌, Bool, true, false, List, [], ◌∷◌, ◌++◌, map, codes, Result, Ok, Err}
use Rattle.std.specs.List.{slice_split, flat_map, list_all}
use Rattle.std.specs.Fmt.{digit_glyph}
use Rattle.std.specs.Str.{IsUtf8}
use Rattle.std.specs.Str.Lossy.{utf8_lossy}
use Rattle.hex.specs.Hex.{decode_of}
use Rattle.xtgettcap.specs.declared.builder.GetTcapBuilder.{GetTcapBuilder}

-- the text of the bytes that a slice encodes in hexadecimal, or of the slice itself if it is not
-- hexadecimal
abbrev pub name_by : {E : Type 0} → List ℕ → Result (List ℕ) E → List ℕ
name_by p (Ok bytes) = utf8_lossy bytes
name_by p (Err e) = utf8_lossy p

abbrev pub name_of : List ℕ → List ℕ
name_of p = name_by p (decode_of p)

-- the names of the slices between `;`
abbrev pub names_of : List ℕ → List (List ℕ)
names_of bs = map name_of (slice_split (λ c. c == 0x3b) bs)

-- two lower-case digits
abbrev pub two_digits : ℕ → List ℕ
two_digits b = digit_glyph false (b / 16) ∷ digit_glyph false (b % 16) ∷ []

abbrev pub hex_text : List ℕ → List ℕ
hex_text bs = flat_map two_digits bs

-- the names in hexadecimal, with `;` between them
abbrev pub names_text : List (List ℕ) → List ℕ
names_text [] = []
names_text (n ∷ ns) = hex_text n ++ flat_map (λ m. 0x3b ∷ hex_text m) ns

-- the text of a query
abbrev pub query_text : List (List ℕ) → List ℕ
query_text ns = 0x1b ∷ codes "P+q" ++ names_text ns

-- a builder that was pushed these bytes
unfoldable pub HasConsumed : {A : Type 0} → List ℕ → GetTcapBuilder A → Type 0
HasConsumed s b = b.bytes ≡ s

-- a byte pushed to p makes q of it
abbrev pub Pushes : {A : Type 0} → GetTcapBuilder A → ℕ → GetTcapBuilder A → Type 0
Pushes p b q = (s : List ℕ) → HasConsumed s p → HasConsumed (s ++ b ∷ []) q

-- texts
abbrev pub AreTexts : List (List ℕ) → Type 0
AreTexts [] = Unit {0}
AreTexts (n ∷ ns) = IsUtf8 n × AreTexts ns

-- names that a query can ask for: texts, at least one
abbrev pub AreWritable : List (List ℕ) → Type 0
AreWritable ns = (ns ≢ []) × AreTexts ns

-- 30-39, 3B, 61-66
abbrev pub is_query_byte : ℕ → Bool
is_query_byte b =
    (nat_le 0x30 b && nat_le b 0x39) || ((b == 0x3b) || (nat_le 0x61 b && nat_le b 0x66))

-- the names are written as digits and `;`, from which they are read
abbrev pub WritesBack : List (List ℕ) → Type 0
WritesBack ns = (list_all is_query_byte (names_text ns) ≡ true) × (names_of (names_text ns) ≡ ns)
