-- Addresses that a link may lead to.
use Rattle.std.specs.Prelude.{ℕ, nat_le, nat_lt, ◌==◌, Bool, false, ◌&&◌, ◌||◌, if◌then◌else◌, List, [], ◌∷◌, codes, length, take, Option, None, Some}
use Rattle.std.specs.List.{list_all}
use Rattle.std.specs.Str.{chars, str_eq_ignore_ascii_case}
use Rattle.esc_values.specs.Clear.{semicolon_list}
use Rattle.esc_values.specs.Scalars.{utf8_of}
use Rattle.esc_html.specs.Characters.{is_character}

-- Whether an address begins with a scheme and the text after it, given in lower case: letters of
-- ASCII may be of either case (RFC 3986, 3.1).
abbrev pub has_scheme : List ℕ → List ℕ → Bool
has_scheme s a = nat_le (length s) (length a)
    && str_eq_ignore_ascii_case (take (length s) a) s

-- neither a control of C0 or C1, nor a space, nor DEL: a browser takes some of these out of an
-- address before it reads the scheme (WHATWG URL, 4.4); and no noncharacter
abbrev pub is_address_char : ℕ → Bool
is_address_char c = nat_lt 0x20 c && (nat_lt c 0x7f || nat_lt 0x9f c) && is_character c

-- no longer than terminals take: VTE and iTerm2 take so many bytes of an address, and no more
abbrev pub longest_address : ℕ
longest_address = 2083

abbrev pub is_short : List ℕ → Bool
is_short a = nat_le (length a) longest_address

-- an address with the scheme http or https and an authority, or mailto: without `//` a browser may
-- read it as one of the page's own host (WHATWG URL, 4.4)
abbrev pub has_safe_scheme : List ℕ → Bool
has_safe_scheme a = has_scheme (codes "http://") a || has_scheme (codes "https://") a
    || has_scheme (codes "mailto:") a

-- the UTF-8 of such an address that is no longer
abbrev pub is_safe_address : List ℕ → Bool
is_safe_address a = (is_short a && has_safe_scheme a) && list_all is_address_char (chars a)

-- ---- addresses in parts

-- Addresses with `;` in them come in parts: terminals take all that follows the second `;` of the
-- command OSC 8 for the address ("Hyperlinks in terminal emulators"), whatever comes before it.

-- the code of links, alone
abbrev pub is_link_code : List ℕ → Bool
is_link_code [] = false
is_link_code (b ∷ []) = b == 0x38
is_link_code (b ∷ c ∷ bs) = false

-- the parts of the address of a command that has these parts, and no other reading; none if it is
-- no link
abbrev pub address_in : List (List ℕ) → List (List ℕ)
address_in [] = []
address_in (p ∷ []) = []
address_in (p ∷ q ∷ us) = if is_link_code p then us else []

-- UTF-8 of characters of an address
abbrev pub is_address_text : Option (List ℕ) → Bool
is_address_text None = false
is_address_text (Some t) = list_all is_address_char (chars t)

abbrev pub is_address_part : List ℕ → Bool
is_address_part u = is_address_text (utf8_of u)

-- these parts, with `;` between them, are a safe address
abbrev pub is_safe_in_parts : List (List ℕ) → Bool
is_safe_in_parts [] = false
is_safe_in_parts (u ∷ us) = (is_short (semicolon_list (u ∷ us)) && has_safe_scheme u)
    && list_all is_address_part (u ∷ us)
