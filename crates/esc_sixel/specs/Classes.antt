-- The class of a byte in sixel data.
use Rattle.std.specs.Prelude.{ℕ, ◌≡◌, ◌-◌, ◌==◌, Bool, true, nat_lt, if◌then◌else◌}
use Rattle.std.specs.Int.{w64, trailing_zeros}
use Rattle.esc_values.specs.Params.{is_digit, is_from}
use Rattle.esc_sixel.specs.declared.class.Class.{Class}
use Rattle.esc_sixel.specs.declared.class.Class.TheVariants.{Return, Line, Pixels, Introduces, Digit, Separator, Junk}
use Rattle.esc_sixel.specs.declared.introducer.Introducer.TheVariants as introducer

-- `$`, `-`, `!`, `#`, `"`, `;`, a digit, 3F to 7E, any other
unfoldable pub class_of : ℕ → Class
class_of b =
    if b == 0x24 then Return
    else if b == 0x2d then Line
    else if b == 0x21 then Introduces introducer.Repeat
    else if b == 0x23 then Introduces introducer.Color
    else if b == 0x22 then Introduces introducer.Raster
    else if b == 0x3b then Separator
    else if nat_lt b 0x30 then Junk
    else if nat_lt b 0x3a then Digit (b - 0x30)
    else if nat_lt b 0x3f then Junk
    else if nat_lt b 0x7f then Pixels (b - 0x3f)
    else Junk

-- six pixels, 3F to 7E
abbrev pub is_pixels : ℕ → Bool
is_pixels b = is_from 0x3f 0x7e b

abbrev pub IsPixels : ℕ → Type 0
IsPixels b = is_pixels b ≡ true

-- `0` to `9`
abbrev pub IsDigit : ℕ → Type 0
IsDigit b = is_digit b ≡ true

-- the place of the lowest bit that is set, or n
abbrev pub lowest : ℕ → ℕ → ℕ
lowest mask n = if mask == 0 then n else trailing_zeros w64 mask
