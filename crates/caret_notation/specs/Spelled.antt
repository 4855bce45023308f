-- Whether all of a span is in the text of its meaning.
use Rattle.std.specs.Prelude.{ℕ, ◌+◌, ◌-◌, nat_le, nat_lt, Bool, true, false, ◌&&◌, ◌||◌, ◌==◌, if◌then◌else◌, List, [], ◌∷◌, Option, Some, None, length, take, drop, get_or, slice_range, bytes_eq}
use Rattle.esc_values.specs.Params.{is_body_byte, is_digit, is_final}

-- ---- one byte

-- a character or a control of ASCII by itself
abbrev pub is_single : List ℕ → Bool
is_single p = (length p == 1) && nat_lt (get_or p 0 0) 0x80

-- ---- control sequences

-- digits that a number of 64 bits holds, whatever they are
abbrev pub most_digits : ℕ
most_digits = 18

-- the number of last digits after this byte, if there were so many before it; none if it is no byte
-- of a body, or there are too many digits in a row
abbrev pub digits_after : ℕ → ℕ → Option ℕ
digits_after n b = if is_digit b then (if nat_lt n most_digits then Some (n + 1) else None)
    else if is_body_byte b then Some 0 else None

abbrev pub is_body_after : Option ℕ → List ℕ → Bool
is_body_after None x = false
is_body_after (Some n) [] = true
is_body_after (Some n) (b ∷ x) = is_body_after (digits_after n b) x

-- parameters and intermediates (20 to 3F)
abbrev pub is_body : List ℕ → Bool
is_body x = is_body_after (Some 0) x

-- A control sequence (ECMA-48, 5.4): `ESC [`, parameters and intermediates, and a final byte, with
-- no control among them. Its text may be another spelling of it: of numbers without zeros before
-- them, or of each rendition by itself.
abbrev pub is_control_sequence : List ℕ → Bool
is_control_sequence p = nat_le 3 (length p)
    && ((get_or p 0 0 == 0x1b) && ((get_or p 1 0 == 0x5b)
    && (is_final (get_or p (length p - 1) 0) && is_body (slice_range p 2 (length p - 1)))))

-- ---- all others

-- ESC \
abbrev pub is_end : List ℕ → Bool
is_end (a ∷ b ∷ []) = (a == 0x1b) && (b == 0x5c)
is_end _ = false

-- BEL comes last
abbrev pub ends_in_bell : List ℕ → Bool
ends_in_bell p = get_or p (length p - 1) 0 == 0x07

-- The text is these bytes, or if BEL ends them, these with `ESC \` in its place.
abbrev pub is_text_of : List ℕ → List ℕ → Bool
is_text_of p t = bytes_eq t p
    || (ends_in_bell p
    && (is_end (drop (length t - 2) t)
    && bytes_eq (take (length t - 2) t) (take (length p - 1) p)))

-- All of these bytes are in this text, which is the text of their meaning.
abbrev pub is_spelled : List ℕ → List ℕ → Bool
is_spelled p t = is_single p || (is_control_sequence p || is_text_of p t)
