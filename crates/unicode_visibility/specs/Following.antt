-- Which characters that deceive belong to the character before them, as people write.
use Rattle.std.specs.Prelude.{ℕ, Bool, true, false, not, ◌==◌, ◌&&◌, ◌||◌, if◌then◌else◌, List, [], ◌∷◌, Option, None, Some}
use Rattle.ucd_derived.specs.Binary.{is_alphabetic, is_grapheme_link}
use Rattle.ucd_emoji.specs.Binary.{is_emoji_modifier, is_emoji_variation_base, is_extended_pictographic}
use Rattle.ucd_script.specs.Script.{script}
use Rattle.ucd_script.specs.declared.Script.{Script}
use Rattle.ucd_script.specs.declared.Script.TheVariants.{Adlam, Arabic, Chorasmian, HanifiRohingya, Mandaic, Manichaean, Mongolian, Nko, OldUyghur, PhagsPa, PsalterPahlavi, Sogdian, Syriac}
use Rattle.unicode_visibility.specs.Characters.{is_among, is_deceiving}

-- a script whose letters join
abbrev pub is_cursive : Script → Bool
is_cursive Adlam = true
is_cursive Arabic = true
is_cursive Chorasmian = true
is_cursive HanifiRohingya = true
is_cursive Mandaic = true
is_cursive Manichaean = true
is_cursive Mongolian = true
is_cursive Nko = true
is_cursive OldUyghur = true
is_cursive PhagsPa = true
is_cursive PsalterPahlavi = true
is_cursive Sogdian = true
is_cursive Syriac = true
is_cursive _ = false

-- a mark on a letter of Arabic
abbrev pub is_arabic_mark : ℕ → Bool
is_arabic_mark c = is_among 0x64b 0x65f c || (c == 0x670)

-- A letter of such a script or a mark on one, or a virama, which joins consonants: after these a
-- joiner says how letters are shown (UAX #31, 2.3.1, rules A1, A2 and B).
abbrev pub joins_letters : ℕ → Bool
joins_letters c =
    if is_cursive (script c) then is_alphabetic c else is_arabic_mark c || is_grapheme_link c

-- after these a joiner makes one emoji of two (UTS #51): a pictograph, the colour of its skin, or
-- the selector of its presentation
abbrev pub joins_emoji : ℕ → Bool
joins_emoji c = is_extended_pictographic c || (is_emoji_modifier c || (c == 0xfe0f))

-- This character belongs to the one before it, if there is one: a variation selector 15 or 16,
-- which chooses how a character is shown (emoji-variation-sequences.txt), a joiner, or a
-- non-joiner.
abbrev pub belongs : Option ℕ → ℕ → Bool
belongs None c = false
belongs (Some b) c =
    if is_among 0xfe0e 0xfe0f c then is_emoji_variation_base b
    else if c == 0x200d then joins_emoji b || joins_letters b
    else if c == 0x200c then joins_letters b
    else false

-- it may come after this character: it belongs to that; or no character comes directly before it,
-- and it is a mark of byte order, with which a text may begin
abbrev pub may_follow : Option ℕ → ℕ → Bool
may_follow None c = c == 0xfeff
may_follow (Some b) c = belongs (Some b) c

-- it deceives, and does not belong there
abbrev pub is_stray : Option ℕ → ℕ → Bool
is_stray b c = is_deceiving c && not (may_follow b c)

-- one of the characters after this one is stray
abbrev pub has_stray : Option ℕ → List ℕ → Bool
has_stray b [] = false
has_stray b (c ∷ cs) = is_stray b c || has_stray (Some c) cs

-- the last of the characters, or the one before them if there are none
abbrev pub last_of : Option ℕ → List ℕ → Option ℕ
last_of b [] = b
last_of b (c ∷ cs) = last_of (Some c) cs
