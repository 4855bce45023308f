-- Colours of characters, of their background, and of their underline.
use Rattle.std.specs.Prelude.{ℕ, ◌+◌, ◌-◌, ◌*◌, ◌/◌, ◌%◌, ◌==◌, Bool, nat_le, nat_lt, if◌then◌else◌, List, [], ◌∷◌, ◌++◌}
use Rattle.typed_functions.specs.Numbers.{ansi_color_at}
use Rattle.typed_functions.specs.declared.color_spec.ColorSpec.{ColorSpec}
use Rattle.typed_functions.specs.declared.color_spec.ColorSpec.TheVariants as spec
use Rattle.esc_style.specs.declared.color.Color.{Color}
use Rattle.esc_style.specs.declared.color.Color.TheVariants.{Default, Named, Palette, Direct}

-- the six intensities of the cube of colours
abbrev pub level : ℕ → ℕ
level k = if k == 0 then 0 else 55 + 40 * k

-- an entry from 16 on of xterm's palette of 256: a cube of six levels a side, and 24 greys
abbrev pub palette : ℕ → ℕ × ℕ × ℕ
palette n = if nat_lt n 232
    then (level ((n - 16) / 36), level ((n - 16) / 6 % 6), level ((n - 16) % 6))
    else (8 + 10 * (n - 232), 8 + 10 * (n - 232), 8 + 10 * (n - 232))

-- an entry of the palette: the first 16 have names
abbrev pub color_at : ℕ → Color
color_at n = if nat_lt n 16 then Named (ansi_color_at n) else Palette n

abbrev pub color_of : ColorSpec → Color
color_of spec.Default = Default
color_of (spec.PaletteIndex n) = color_at n
color_of (spec.TrueColor c) = Direct c

-- a hexadecimal digit in lower case
abbrev pub hex_digit : ℕ → ℕ
hex_digit n = if nat_lt n 10 then 0x30 + n else 0x57 + n

-- a number of at most 255, in two digits
abbrev pub hex_byte : ℕ → List ℕ
hex_byte n = hex_digit (n / 16 % 16) ∷ hex_digit (n % 16) ∷ []

-- a character of ASCII
abbrev pub is_small : ℕ → Bool
is_small c = nat_le c 127

-- a colour in CSS (CSS Color Module Level 4, 5.2), and the semicolon after it
abbrev pub color_code : ℕ × ℕ × ℕ → List ℕ
color_code c = 0x23 ∷ (hex_byte c.0 ++ (hex_byte c.1 ++ (hex_byte c.2 ++ 0x3b ∷ [])))
