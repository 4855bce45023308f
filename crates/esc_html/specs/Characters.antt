-- Characters that a page does not show as they are.
use Rattle.std.specs.Prelude.{ℕ, ◌%◌, ◌==◌, nat_le, nat_lt, Bool, not, ◌&&◌, ◌||◌, if◌then◌else◌}

-- a noncharacter (Unicode, 23.7), which is an error in HTML (WHATWG HTML, 13.2.3.5)
abbrev pub is_noncharacter : ℕ → Bool
is_noncharacter c = (nat_le 0xfdd0 c && nat_le c 0xfdef) || nat_le 0xfffe (c % 0x10000)

abbrev pub is_character : ℕ → Bool
is_character c = not (is_noncharacter c)

-- U+FFFD in the place of a noncharacter, and any other character as it is
abbrev pub shown_as : ℕ → ℕ
shown_as c = if is_noncharacter c then 0xfffd else c

-- a byte of the UTF-8 of characters before U+F000 alone, none of which is a noncharacter
abbrev pub is_low_byte : ℕ → Bool
is_low_byte b = nat_lt b 0xef

-- a byte that is written as it is: not DEL, and none that is written as a reference
abbrev pub is_bare : ℕ → Bool
is_bare b = not (b == 0x7f) && (not (b == 0x26) && (not (b == 0x3c) && not (b == 0x3e)))
