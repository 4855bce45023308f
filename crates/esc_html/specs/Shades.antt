-- Colours without a style sheet, by numbers: those of a light page, and of grounds, on which text
-- can be read: with a contrast of 4.5 to 1 if the ground is the page, a colour that has a name, or
-- one of the palette (WCAG 2.2, 1.4.3).
use Rattle.std.specs.Prelude.{ℕ, ◌+◌, ◌*◌, nat_lt, Bool, true, false, not, ◌&&◌, if◌then◌else◌, Option, Some, None}
use Rattle.esc_html.specs.Plain.{is_own}
use Rattle.esc_style.specs.Colors.{palette}
use Rattle.esc_style.specs.declared.color.Color.{Color}
use Rattle.esc_style.specs.declared.color.Color.TheVariants.{Default, Named, Palette, Direct}
use Rattle.typed_functions.specs.declared.ansi_color.AnsiColor.{AnsiColor}
use Rattle.typed_functions.specs.declared.ansi_color.AnsiColor.TheVariants as ansi

-- the colours that have names, of characters on the page
abbrev pub ansi_rgb : AnsiColor → ℕ × ℕ × ℕ
ansi_rgb ansi.Black = (0x24, 0x29, 0x2f)
ansi_rgb ansi.Red = (0xb3, 0x26, 0x1e)
ansi_rgb ansi.Green = (0x11, 0x63, 0x29)
ansi_rgb ansi.Yellow = (0x7d, 0x4e, 0x00)
ansi_rgb ansi.Blue = (0x05, 0x50, 0xae)
ansi_rgb ansi.Magenta = (0x82, 0x50, 0xdf)
ansi_rgb ansi.Cyan = (0x0b, 0x6b, 0x75)
ansi_rgb ansi.White = (0x6e, 0x77, 0x81)
ansi_rgb ansi.BrightBlack = (0x57, 0x60, 0x6a)
ansi_rgb ansi.BrightRed = (0xcf, 0x22, 0x2e)
ansi_rgb ansi.BrightGreen = (0x1a, 0x7f, 0x37)
ansi_rgb ansi.BrightYellow = (0x9a, 0x67, 0x00)
ansi_rgb ansi.BrightBlue = (0x09, 0x69, 0xda)
ansi_rgb ansi.BrightMagenta = (0x9a, 0x3f, 0xd5)
ansi_rgb ansi.BrightCyan = (0x1b, 0x7c, 0x83)
ansi_rgb ansi.BrightWhite = (0x42, 0x4a, 0x53)

-- the colours of characters on a dark ground
abbrev pub light_rgb : AnsiColor → ℕ × ℕ × ℕ
light_rgb ansi.Black = (0x00, 0x00, 0x00)
light_rgb ansi.Red = (0xff, 0x7b, 0x72)
light_rgb ansi.Green = (0x3f, 0xb9, 0x50)
light_rgb ansi.Yellow = (0xd2, 0x99, 0x22)
light_rgb ansi.Blue = (0x58, 0xa6, 0xff)
light_rgb ansi.Magenta = (0xbc, 0x8c, 0xff)
light_rgb ansi.Cyan = (0x39, 0xc5, 0xcf)
light_rgb ansi.White = (0xff, 0xff, 0xff)
light_rgb ansi.BrightBlack = (0x98, 0xa1, 0xab)
light_rgb ansi.BrightRed = (0xff, 0xa1, 0x98)
light_rgb ansi.BrightGreen = (0x56, 0xd3, 0x64)
light_rgb ansi.BrightYellow = (0xe3, 0xb3, 0x41)
light_rgb ansi.BrightBlue = (0x79, 0xc0, 0xff)
light_rgb ansi.BrightMagenta = (0xd2, 0xa8, 0xff)
light_rgb ansi.BrightCyan = (0x56, 0xd4, 0xdd)
light_rgb ansi.BrightWhite = (0xff, 0xff, 0xff)

-- the colours of characters on a light ground
abbrev pub dark_rgb : AnsiColor → ℕ × ℕ × ℕ
dark_rgb ansi.Black = (0x00, 0x00, 0x00)
dark_rgb ansi.White = (0xff, 0xff, 0xff)
dark_rgb ansi.BrightWhite = (0xff, 0xff, 0xff)
dark_rgb c = ansi_rgb c

-- as grounds: white and black both can be read on each, but on white and black themselves
abbrev pub ground_rgb : AnsiColor → ℕ × ℕ × ℕ
ground_rgb ansi.Black = (0x24, 0x29, 0x2f)
ground_rgb ansi.Red = (0xdd, 0x31, 0x3d)
ground_rgb ansi.Green = (0x25, 0x86, 0x40)
ground_rgb ansi.Yellow = (0x92, 0x71, 0x00)
ground_rgb ansi.Blue = (0x0a, 0x71, 0xeb)
ground_rgb ansi.Magenta = (0x89, 0x59, 0xe1)
ground_rgb ansi.Cyan = (0x1c, 0x82, 0x89)
ground_rgb ansi.White = (0xd0, 0xd7, 0xde)
ground_rgb ansi.BrightBlack = (0x6e, 0x76, 0x80)
ground_rgb ansi.BrightRed = (0xeb, 0x06, 0x0b)
ground_rgb ansi.BrightGreen = (0x17, 0x88, 0x17)
ground_rgb ansi.BrightYellow = (0x98, 0x6e, 0x1d)
ground_rgb ansi.BrightBlue = (0x26, 0x72, 0xe0)
ground_rgb ansi.BrightMagenta = (0xc6, 0x41, 0x91)
ground_rgb ansi.BrightCyan = (0x09, 0x81, 0x94)
ground_rgb ansi.BrightWhite = (0xea, 0xee, 0xf2)

-- as grounds of any other colour
abbrev pub deep_rgb : AnsiColor → ℕ × ℕ × ℕ
deep_rgb ansi.Black = (0x24, 0x29, 0x2f)
deep_rgb ansi.Red = (0x68, 0x11, 0x17)
deep_rgb ansi.Green = (0x10, 0x3c, 0x1c)
deep_rgb ansi.Yellow = (0x41, 0x32, 0x00)
deep_rgb ansi.Blue = (0x04, 0x33, 0x69)
deep_rgb ansi.Magenta = (0x3f, 0x18, 0x85)
deep_rgb ansi.Cyan = (0x0c, 0x3a, 0x3d)
deep_rgb ansi.White = (0xf6, 0xf8, 0xfa)
deep_rgb ansi.BrightBlack = (0x24, 0x29, 0x2f)
deep_rgb ansi.BrightRed = (0x6e, 0x03, 0x05)
deep_rgb ansi.BrightGreen = (0x0a, 0x3d, 0x0a)
deep_rgb ansi.BrightYellow = (0x43, 0x31, 0x0d)
deep_rgb ansi.BrightBlue = (0x0f, 0x33, 0x67)
deep_rgb ansi.BrightMagenta = (0x5b, 0x1b, 0x42)
deep_rgb ansi.BrightCyan = (0x04, 0x3a, 0x42)
deep_rgb ansi.BrightWhite = (0xf6, 0xf8, 0xfa)

-- the ground for black on black, and for white on white
abbrev pub gray_rgb : ℕ × ℕ × ℕ
gray_rgb = (0x6e, 0x76, 0x80)

-- one of the two whites, which are light grounds
abbrev pub is_white : AnsiColor → Bool
is_white ansi.White = true
is_white ansi.BrightWhite = true
is_white _ = false

abbrev pub is_black : AnsiColor → Bool
is_black ansi.Black = true
is_black _ = false

-- whether white can be read better on a colour than black, by its luminance
abbrev pub is_deep : ℕ × ℕ × ℕ → Bool
is_deep c = nat_lt (3 * (c.0 * c.0) + 10 * (c.1 * c.1) + c.2 * c.2) 184801

-- the same for the ground of characters: for the page's own if it is exchanged with its text
abbrev pub is_dark : Bool → Color → Bool
is_dark inverse Default = inverse
is_dark inverse (Named c) = not (is_white c)
is_dark inverse (Palette n) = is_deep (palette n)
is_dark inverse (Direct c) = is_deep c

-- the colour of text that has none, on a ground: the page's own has none either
abbrev pub plain_text : Bool → Color → Option (ℕ × ℕ × ℕ)
plain_text inverse g = if is_own g then None
    else Some (if is_dark inverse g then (0xff, 0xff, 0xff) else (0x00, 0x00, 0x00))

-- that of text with a colour that has a name
abbrev pub named_text : Bool → AnsiColor → Color → ℕ × ℕ × ℕ
named_text inverse c g = if is_own g && not inverse then ansi_rgb c
    else if is_dark inverse g then light_rgb c
    else dark_rgb c

-- and that of any text
abbrev pub text_rgb : Bool → Color → Color → Option (ℕ × ℕ × ℕ)
text_rgb inverse Default g = plain_text inverse g
text_rgb inverse (Named c) g = Some (named_text inverse c g)
text_rgb inverse (Palette n) g = Some (palette n)
text_rgb inverse (Direct c) g = Some c

-- a ground with a name, around text with one
abbrev pub named_around : AnsiColor → AnsiColor → ℕ × ℕ × ℕ
named_around t c = if is_black t then (if is_black c then gray_rgb else ground_rgb c)
    else if is_white t then (if is_white c then gray_rgb else ground_rgb c)
    else deep_rgb c

-- around any text
abbrev pub around_text : Color → AnsiColor → ℕ × ℕ × ℕ
around_text (Named t) c = named_around t c
around_text Default c = ground_rgb c
around_text (Palette n) c = ground_rgb c
around_text (Direct d) c = ground_rgb c

-- any ground, around any text
abbrev pub around_rgb : Color → Color → Option (ℕ × ℕ × ℕ)
around_rgb t Default = None
around_rgb t (Named c) = Some (around_text t c)
around_rgb t (Palette n) = Some (palette n)
around_rgb t (Direct c) = Some c
