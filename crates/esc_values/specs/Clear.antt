-- Clear characters, the texts that are made of them, and the parts into which such texts split at
-- `;`. A terminal shows each clear character as itself: none of them controls, opens or ends
-- anything.
use Rattle.std.specs.Prelude.{ℕ, ◌≡◌, ◌≢◌, Bool, true, not, nat_le, ◌==◌, ◌||◌, ◌&&◌, List, [], ◌∷◌, ◌++◌}
use Rattle.std.specs.List.{slice_split, list_all, flat_map}
use Rattle.std.specs.Str.{encode_utf8_all}
use lib.Utf8.{scalar}

-- a Unicode scalar value from U+0020 to U+007F, or from U+00A0 on: neither C0 nor C1
abbrev pub is_clear : ℕ → Bool
is_clear c = scalar c && (nat_le 0x20 c && (nat_le c 0x7f || nat_le 0xa0 c))

-- the same, but not `;`
abbrev pub is_part_char : ℕ → Bool
is_part_char c = is_clear c && not (c == 0x3b)

-- the UTF-8 of characters that all pass the test
abbrev pub IsTextOf : (ℕ → Bool) → List ℕ → Type 0
IsTextOf test t = (cs : List ℕ) × (list_all test cs ≡ true) × (encode_utf8_all cs ≡ t)

-- a text of clear characters
abbrev pub IsClearText : List ℕ → Type 0
IsClearText t = IsTextOf is_clear t

-- a clear text without `;`
abbrev pub IsClearPart : List ℕ → Type 0
IsClearPart t = IsTextOf is_part_char t

-- clear texts without `;`
abbrev pub AreClearParts : List (List ℕ) → Type 0
AreClearParts [] = Unit {0}
AreClearParts (p ∷ ps) = IsClearPart p × AreClearParts ps

-- the slices between `;`; none if the text is empty
abbrev pub parts_of : List ℕ → List (List ℕ)
parts_of [] = []
parts_of (b ∷ text) = slice_split (λ c. c == 0x3b) (b ∷ text)

-- the parts, each after a `;`
abbrev pub separated_parts : List (List ℕ) → List ℕ
separated_parts ps = flat_map (λ q. 0x3b ∷ q) ps

-- the parts, with `;` between them
abbrev pub semicolon_list : List (List ℕ) → List ℕ
semicolon_list [] = []
semicolon_list (p ∷ ps) = p ++ separated_parts ps

-- clear parts, but not one empty part: the parts into which a clear text splits
abbrev pub AreTextParts : List (List ℕ) → Type 0
AreTextParts ps = AreClearParts ps × (ps ≢ [] ∷ [])

-- the string terminator, ST: `ESC \`
abbrev pub string_terminator : List ℕ
string_terminator = 0x1b ∷ 0x5c ∷ []

-- a text between the introducer of an operating system command, `ESC ]`, and the string terminator
abbrev pub framed_text : List ℕ → List ℕ
framed_text t = 0x1b ∷ 0x5d ∷ (t ++ string_terminator)
