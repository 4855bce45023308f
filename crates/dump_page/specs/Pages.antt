-- The text that is safe to print on a terminal, and the text that is quoted there.
use Rattle.std.specs.Prelude.{ℕ, ◌≡◌, ◌==◌, Bool, true, not, ◌&&◌, if◌then◌else◌, List, [], ◌∷◌, ◌++◌, Option}
use Rattle.std.specs.List.{list_all, flat_map}
use Rattle.std.specs.Char.{encode_utf8}
use Rattle.std.specs.Io.KnownBytes.{Appends}
use Rattle.unicode_visibility.specs.Characters.{is_shown}
use Rattle.dump_page.specs.Quoted.{Reader, closes, is_quoted, next}
use Rattle.dump_page.specs.Quoted.Reader.{InText}

-- A part of a page: a character of the words, the characters between two quotes, the end of a
-- line, or a change of the colour.
pub data PagePart : Type 0 where
  Word : ℕ → PagePart
  Quoted : List ℕ → PagePart
  LineEnd : PagePart
  PlaceColor : PagePart
  BytesColor : PagePart
  NoColor : PagePart

-- its characters
abbrev pub page_part_chars : PagePart → List ℕ
page_part_chars (Word c) = c ∷ []
page_part_chars (Quoted cs) = 0x22 ∷ (cs ++ 0x22 ∷ [])
page_part_chars LineEnd = 0x0a ∷ []
page_part_chars PlaceColor = 0x1b ∷ 0x5b ∷ 0x33 ∷ 0x33 ∷ 0x6d ∷ []
page_part_chars BytesColor = 0x1b ∷ 0x5b ∷ 0x33 ∷ 0x36 ∷ 0x6d ∷ []
page_part_chars NoColor = 0x1b ∷ 0x5b ∷ 0x6d ∷ []

-- their UTF-8
abbrev pub page_part_text : PagePart → List ℕ
page_part_text (Word c) = encode_utf8 c
page_part_text (Quoted cs) = 0x22 ∷ (flat_map encode_utf8 cs ++ 0x22 ∷ [])
page_part_text LineEnd = page_part_chars LineEnd
page_part_text PlaceColor = page_part_chars PlaceColor
page_part_text BytesColor = page_part_chars BytesColor
page_part_text NoColor = page_part_chars NoColor

-- a character of words: it is shown, and is no quote
abbrev pub is_word : ℕ → Bool
is_word c = is_shown c && not (c == 0x22)

-- a quoted text is shown, and reads as bytes
abbrev pub is_fit : PagePart → Bool
is_fit (Word c) = is_word c
is_fit (Quoted cs) = list_all is_shown cs && is_quoted cs
is_fit LineEnd = true
is_fit PlaceColor = true
is_fit BytesColor = true
is_fit NoColor = true

-- a text that is made of such parts
abbrev pub IsPage : List ℕ → Type 0
IsPage t = (ps : List PagePart) × (list_all is_fit ps ≡ true) × (flat_map page_part_text ps ≡ t)

-- known bytes grow by a page
pub record AppendsPage (old new : Option (List ℕ)) : Type 0 where
  pub text : List ℕ
  pub safe : ∥ IsPage text ∥₁
  pub appends : Appends old new text

-- a change of the colour or the end of a line
abbrev pub IsPagePart : List ℕ → Type 0
IsPagePart t = (p : PagePart) × (is_fit p ≡ true) × (page_part_text p ≡ t)

-- the place of a reader of a page: outside of quotes, or between them, after some characters
pub data Place : Type 0 where
  Outside : Place
  Inside : Reader → List ℕ → Place

-- The texts that a reader finds between quotes in these characters: a `"` begins one, and the next
-- `"` that no `\` escapes ends it.
abbrev pub found_quotes : Place → List ℕ → List (List ℕ)
found_quotes Outside [] = []
found_quotes (Inside r read) [] = []
found_quotes Outside (c ∷ cs) = if c == 0x22 then found_quotes (Inside InText []) cs
    else found_quotes Outside cs
found_quotes (Inside r read) (c ∷ cs) = if closes r c then read ∷ found_quotes Outside cs
    else found_quotes (Inside (next r c) (read ++ c ∷ [])) cs

-- the quoted texts of parts
abbrev pub quoted_texts : List PagePart → List (List ℕ)
quoted_texts [] = []
quoted_texts (Word c ∷ ps) = quoted_texts ps
quoted_texts (Quoted cs ∷ ps) = cs ∷ quoted_texts ps
quoted_texts (LineEnd ∷ ps) = quoted_texts ps
quoted_texts (PlaceColor ∷ ps) = quoted_texts ps
quoted_texts (BytesColor ∷ ps) = quoted_texts ps
quoted_texts (NoColor ∷ ps) = quoted_texts ps
