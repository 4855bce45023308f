-- Addresses in text.
use Rattle.std.specs.Prelude.{ℕ, ◌≡◌, ◌≤◌, ◌+◌, ◌-◌, ◌==◌, nat_le, nat_lt, Bool, true, false, ◌&&◌, ◌||◌, if◌then◌else◌, List, codes, length, take, drop, slice_index}
use Rattle.std.specs.Char.{is_ascii_alphanumeric}
use Rattle.std.specs.List.{list_all, list_any}
use Rattle.std.specs.Str.{str_eq_ignore_ascii_case}
use Rattle.page_input.specs.declared.address.Place.{Place}

-- a character that an address may have (RFC 3986, 2): a letter, a digit, or one of these; square
-- brackets are left out, which more often stand around an address
abbrev pub is_sign : ℕ → Bool
is_sign b = list_any (λ c. c == b) (codes "-._~:/?#@!$&'()*+,;=%")

abbrev pub is_address_byte : ℕ → Bool
is_address_byte b = is_ascii_alphanumeric b || is_sign b

-- it begins with this, in letters of either case, and a letter or digit, as the name of a host does
abbrev pub begins_with : List ℕ → List ℕ → Bool
begins_with s a = nat_lt (length s) (length a)
    && (str_eq_ignore_ascii_case (take (length s) a) s
    && is_ascii_alphanumeric (slice_index a (length s)))

abbrev pub has_host : List ℕ → Bool
has_host a = begins_with (codes "http://") a || begins_with (codes "https://") a

-- as many bytes as VTE and iTerm2 take of a link's address
abbrev pub longest : ℕ
longest = 2083

-- the bytes that end a sentence
abbrev pub is_stop : ℕ → Bool
is_stop b = list_any (λ c. c == b) (codes ".,;:!?'")

abbrev pub ends_in_stop : List ℕ → Bool
ends_in_stop a = is_stop (slice_index a (length a - 1))

-- An address.
pub record IsAddress (a : List ℕ) : Type 0 where
  pub host : has_host a ≡ true
  pub bytes : list_all is_address_byte a ≡ true
  pub short : nat_le (length a) longest ≡ true
  pub ended : ends_in_stop a ≡ false

-- ---- in a text

-- the byte before a place in a text, if this one comes before the text
abbrev pub byte_before : ℕ → List ℕ → ℕ → ℕ
byte_before previous s n =
    if n == 0 || nat_lt (length s) n then previous else slice_index s (n - 1)

-- a letter, a digit or _
abbrev pub is_word : ℕ → Bool
is_word b = is_ascii_alphanumeric b || b == 0x5f

-- the bytes of a place
abbrev pub at_place : List ℕ → Place → List ℕ
at_place s p = take p.length (drop p.begin s)

-- An address is there, after no letter, digit or _.
pub record HasAddress (previous : ℕ) (s : List ℕ) (p : Place) : Type 0 where
  pub address : IsAddress (at_place s p)
  pub within : p.begin + p.length ≤ length s
  pub apart : is_word (byte_before previous s p.begin) ≡ false
