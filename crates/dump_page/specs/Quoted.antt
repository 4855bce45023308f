-- The way in which bytes of a stream come between quotes, and the bytes that are read there.
use Rattle.std.specs.Prelude.{ℕ, ◌≡◌, ◌+◌, ◌*◌, ◌==◌, ◌&&◌, nat_le, not, Bool, true, false, if◌then◌else◌, Option, Some, None, List, [], ◌∷◌, ◌++◌}
use Rattle.std.specs.Char.{encode_utf8, digit_value}
use Rattle.std.specs.List.{list_all, flat_map}
use Rattle.std.specs.Option.{is_some}
use Rattle.unicode_visibility.specs.Characters.{is_shown}

-- a byte that is a character which comes as it is, in words and between quotes
abbrev pub is_plain : ℕ → Bool
is_plain b = nat_le 0x20 b && (nat_le b 0x7e && (not (b == 0x22) && not (b == 0x5c)))

-- a byte that is a character of words
abbrev pub is_word_byte : ℕ → Bool
is_word_byte b = nat_le 0x20 b && (nat_le b 0x7e && not (b == 0x22))

-- bytes before those of the rest
abbrev pub bytes_before : List ℕ → Option (List ℕ) → Option (List ℕ)
bytes_before s None = None
bytes_before s (Some t) = Some (s ++ t)

-- the place of a reader: in the text, after a `\`, after `\x`, or after the first digit of a number
pub data Reader : Type 0 where
  InText : Reader
  AfterBackslash : Reader
  InNumber : Reader
  AfterDigit : ℕ → Reader

-- whether a character ends the text there: a `"` that is not escaped
abbrev pub closes : Reader → ℕ → Bool
closes InText c = c == 0x22
closes AfterBackslash c = false
closes InNumber c = false
closes (AfterDigit d) c = false

-- the place of the reader after a character that closes nothing
abbrev pub next : Reader → ℕ → Reader
next InText c = if c == 0x5c then AfterBackslash else InText
next AfterBackslash c = if c == 0x78 then InNumber else InText
next InNumber c = AfterDigit (digit_value c)
next (AfterDigit d) c = InText

-- the bytes that such a character adds
abbrev pub given_bytes : Reader → ℕ → List ℕ
given_bytes InText c = if c == 0x5c then [] else encode_utf8 c
given_bytes AfterBackslash c = if c == 0x78 then [] else encode_utf8 c
given_bytes InNumber c = []
given_bytes (AfterDigit d) c = (16 * d + digit_value c) ∷ []

-- The bytes that the characters between two quotes stand for: a character after a `\` for itself,
-- `\x` and two hexadecimal digits for a byte, and any other for itself. None, if a `"` is not
-- escaped or an escape is not whole.
abbrev pub unquoted_bytes : Reader → List ℕ → Option (List ℕ)
unquoted_bytes InText [] = Some []
unquoted_bytes AfterBackslash [] = None
unquoted_bytes InNumber [] = None
unquoted_bytes (AfterDigit d) [] = None
unquoted_bytes r (c ∷ cs) = if closes r c then None
    else bytes_before (given_bytes r c) (unquoted_bytes (next r c) cs)

-- characters that stand for bytes
abbrev pub is_quoted : List ℕ → Bool
is_quoted cs = is_some (unquoted_bytes InText cs)

-- The text s, as UTF-8, grows to t by characters that are shown and that read as these bytes,
-- whatever comes after them.
pub record Quotes (s t bytes : List ℕ) : Type 0 where
  pub added : List ℕ
  pub shown : list_all is_shown added ≡ true
  pub appends : t ≡ s ++ flat_map encode_utf8 added
  pub reads : (rest : List ℕ)
      → unquoted_bytes InText (added ++ rest) ≡ bytes_before bytes (unquoted_bytes InText rest)

-- it grows so by some bytes
abbrev pub QuotesSome : List ℕ → List ℕ → Type 0
QuotesSome s t = (bytes : List ℕ) × Quotes s t bytes

-- a text that reads so by itself
abbrev pub IsQuote : List ℕ → Type 0
IsQuote t = QuotesSome [] t

-- it grows by such a text between two quotes
abbrev pub AddsQuote : List ℕ → List ℕ → Type 0
AddsQuote s t = (q : List ℕ) × IsQuote q × (t ≡ s ++ 0x22 ∷ (q ++ 0x22 ∷ []))
