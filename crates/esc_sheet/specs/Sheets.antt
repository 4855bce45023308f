-- Text with nothing live in it: characters that show, ends of lines, sequences that make looks, and
-- links.
use Rattle.std.specs.Prelude.{ℕ, ◌≡◌, ◌==◌, nat_lt, ◌||◌, ◌&&◌, Bool, true, List, [], ◌∷◌, ◌++◌, codes, Option, Some, None}
use Rattle.std.specs.List.{list_all, flat_map}
use Rattle.std.specs.Char.{encode_utf8}
use Rattle.std.specs.Fmt.{decimal}
use Rattle.std.specs.Io.KnownBytes.{Appends}
use Rattle.esc_style.specs.declared.look.Look.{Look}
use Rattle.esc_sgr.specs.Sgr.{look_text}
use Rattle.esc_values.specs.Clear.{string_terminator}
use Rattle.unicode_visibility.specs.Characters.{is_among, is_shown}

-- A character that may belong to the one before it, as in emoji: a variation selector 15 or 16, a
-- joiner or a non-joiner.
abbrev pub is_joiner : ℕ → Bool
is_joiner c = is_among 0xfe0e 0xfe0f c || ((c == 0x200d) || (c == 0x200c))

-- a character of the text: it shows as itself, or may belong to the one before it
abbrev pub is_character : ℕ → Bool
is_character c = is_shown c || is_joiner c

-- a character of an address and of an id: one of ASCII that shows
abbrev pub is_address_char : ℕ → Bool
is_address_char c = nat_lt 0x20 c && nat_lt c 0x7f

abbrev pub is_id : Option (List ℕ) → Bool
is_id None = true
is_id (Some i) = list_all is_address_char i

abbrev pub id_text : Option (List ℕ) → List ℕ
id_text None = []
id_text (Some i) = codes "id=" ++ i

-- the beginning of a link with an id, or without one, and an address; with neither, the end of
-- one (OSC 8)
abbrev pub lead_text : Option (List ℕ) → List ℕ → List ℕ
lead_text i a = 0x1b ∷ codes "]8;" ++ (id_text i ++ (0x3b ∷ a ++ string_terminator))

-- A part of the text: a character, a number in decimal, the end of a line, what makes a look, or
-- what begins a link or ends one.
pub data Part : Type 0 where
  Character : ℕ → Part
  Number : ℕ → Part
  LineEnd : Part
  Change : Look → Part
  Lead : Option (List ℕ) → List ℕ → Part

abbrev pub part_text : Part → List ℕ
part_text (Character c) = encode_utf8 c
part_text (Number n) = decimal n
part_text LineEnd = 0x0a ∷ []
part_text (Change l) = look_text l
part_text (Lead i a) = lead_text i a

abbrev pub is_fit : Part → Bool
is_fit (Character c) = is_character c
is_fit (Number n) = true
is_fit LineEnd = true
is_fit (Change l) = true
is_fit (Lead i a) = is_id i && list_all is_address_char a

-- a text that is made of such parts
abbrev pub IsSheet : List ℕ → Type 0
IsSheet t = (ps : List Part) × (list_all is_fit ps ≡ true) × (flat_map part_text ps ≡ t)

-- known bytes grow by such a text
pub record AppendsSheet (old new : Option (List ℕ)) : Type 0 where
  pub text : List ℕ
  pub safe : ∥ IsSheet text ∥₁
  pub appends : Appends old new text
