-- The signs in the bytes of a text that characters deceive in it, before any is decoded.
use Rattle.std.specs.Prelude.{ℕ, Bool, false, not, nat_le, nat_lt, ◌==◌, ◌&&◌, ◌||◌, List, [], ◌∷◌}
use Rattle.unicode_visibility.specs.Characters.{is_among}

-- a character that deceives may begin with these two bytes, as far as a few comparisons say
abbrev pub is_hint : ℕ → ℕ → Bool
is_hint a b = ((a == 0xe2) && nat_lt b 0x82) || (((a == 0xe3) && (b == 0x85))
    || ((nat_le 0xef a && not (b == 0x9f)) || ((a == 0xe1) || ((a == 0xc2) || ((a == 0xcd)
    || (a == 0xd8))))))

-- one begins with these two bytes
abbrev pub is_sign : ℕ → ℕ → Bool
is_sign a b = ((a == 0xc2) && (b == 0xad)) || (((a == 0xcd) && (b == 0x8f))
    || (((a == 0xd8) && (b == 0x9c)) || (((a == 0xe1) && nat_lt b 0xa1)
    || (((a == 0xe2) && nat_lt b 0x82) || (((a == 0xe3) && (b == 0x85))
    || (((a == 0xef) && ((b == 0xb8) || ((b == 0xbb) || nat_le 0xbe b)))
    || (((a == 0xf0) && nat_lt b 0x9e) || ((a == 0xf3) && (b == 0xa0)))))))))

-- the three bytes of a dash or a quotation mark, U+2010 to U+2027
abbrev pub is_dash : ℕ → ℕ → List ℕ → Bool
is_dash a b [] = false
is_dash a b (c ∷ s) = (a == 0xe2) && ((b == 0x80) && is_among 0x90 0xa7 c)

-- one may begin with this byte, before these
abbrev pub begins_hint : ℕ → List ℕ → Bool
begins_hint a [] = false
begins_hint a (b ∷ s) = is_hint a b

abbrev pub begins_sign : ℕ → List ℕ → Bool
begins_sign a [] = false
begins_sign a (b ∷ s) = is_sign a b && not (is_dash a b s)

-- one may begin somewhere in these bytes
abbrev pub has_hint : List ℕ → Bool
has_hint [] = false
has_hint (a ∷ s) = begins_hint a s || has_hint s

abbrev pub has_sign : List ℕ → Bool
has_sign [] = false
has_sign (a ∷ s) = begins_sign a s || has_sign s
