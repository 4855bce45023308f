-- The numbers of renditions (ECMA-48, 8.3.117; xterm's list, "Character Attributes (SGR)").
use Rattle.std.specs.Prelude.{ℕ, ◌+◌, ◌-◌, ◌==◌, true, false, nat_le, if◌then◌else◌, Option, Some, None}
use Rattle.esc_values.specs.Params.{is_from}
use Rattle.esc_sequences.specs.declared.intensity.Intensity.TheVariants as intensity
use Rattle.esc_sequences.specs.declared.underline.Underline.TheVariants as underline
use Rattle.typed_functions.specs.declared.ansi_color.AnsiColor.{AnsiColor}
use Rattle.typed_functions.specs.declared.ansi_color.AnsiColor.TheVariants as ansi
use Rattle.typed_functions.specs.declared.blink.Blink.TheVariants as blink
use Rattle.typed_functions.specs.declared.color_spec.ColorSpec.TheVariants as color
use Rattle.typed_functions.specs.declared.font.Font.{Font}
use Rattle.typed_functions.specs.declared.font.Font.TheVariants as font
use Rattle.typed_functions.specs.declared.frame.Frame.TheVariants as frame
use Rattle.typed_functions.specs.declared.ideogram.Ideogram.TheVariants as ideogram
use Rattle.typed_functions.specs.declared.vertical_align.VerticalAlign.TheVariants as align
use Rattle.typed_functions.specs.declared.rendition.Rendition.{Rendition}
use Rattle.typed_functions.specs.declared.rendition.Rendition.TheVariants.{Reset, Intensity, Italic, Underline, Blink, Inverse, Invisible, StrikeThrough, Font as in_font, Proportional, AnsiForeground, AnsiBackground, Foreground, Background, UnderlineColor, Frame, Overline, Ideogram, VerticalAlign}

-- the place of a colour in the palette
abbrev pub ansi_color_number : AnsiColor → ℕ
ansi_color_number ansi.Black = 0
ansi_color_number ansi.Red = 1
ansi_color_number ansi.Green = 2
ansi_color_number ansi.Yellow = 3
ansi_color_number ansi.Blue = 4
ansi_color_number ansi.Magenta = 5
ansi_color_number ansi.Cyan = 6
ansi_color_number ansi.White = 7
ansi_color_number ansi.BrightBlack = 8
ansi_color_number ansi.BrightRed = 9
ansi_color_number ansi.BrightGreen = 10
ansi_color_number ansi.BrightYellow = 11
ansi_color_number ansi.BrightBlue = 12
ansi_color_number ansi.BrightMagenta = 13
ansi_color_number ansi.BrightCyan = 14
ansi_color_number ansi.BrightWhite = 15

-- the colour at a place from 0 to 15
abbrev pub ansi_color_at : ℕ → AnsiColor
ansi_color_at n = if n == 0 then ansi.Black
    else if n == 1 then ansi.Red
    else if n == 2 then ansi.Green
    else if n == 3 then ansi.Yellow
    else if n == 4 then ansi.Blue
    else if n == 5 then ansi.Magenta
    else if n == 6 then ansi.Cyan
    else if n == 7 then ansi.White
    else if n == 8 then ansi.BrightBlack
    else if n == 9 then ansi.BrightRed
    else if n == 10 then ansi.BrightGreen
    else if n == 11 then ansi.BrightYellow
    else if n == 12 then ansi.BrightBlue
    else if n == 13 then ansi.BrightMagenta
    else if n == 14 then ansi.BrightCyan
    else ansi.BrightWhite

-- the number of a font, after that of the first
abbrev pub font_number : Font → ℕ
font_number font.Default = 0
font_number font.Alternate1 = 1
font_number font.Alternate2 = 2
font_number font.Alternate3 = 3
font_number font.Alternate4 = 4
font_number font.Alternate5 = 5
font_number font.Alternate6 = 6
font_number font.Alternate7 = 7
font_number font.Alternate8 = 8
font_number font.Alternate9 = 9
font_number font.Fraktur = 10

abbrev pub font_at : ℕ → Font
font_at n = if n == 0 then font.Default
    else if n == 1 then font.Alternate1
    else if n == 2 then font.Alternate2
    else if n == 3 then font.Alternate3
    else if n == 4 then font.Alternate4
    else if n == 5 then font.Alternate5
    else if n == 6 then font.Alternate6
    else if n == 7 then font.Alternate7
    else if n == 8 then font.Alternate8
    else if n == 9 then font.Alternate9
    else font.Fraktur

-- those of 0 to 9
abbrev pub switched_on : ℕ → Option Rendition
switched_on n = if n == 0 then Some (Reset)
    else if n == 1 then Some (Intensity intensity.Bold)
    else if n == 2 then Some (Intensity intensity.Half)
    else if n == 3 then Some (Italic true)
    else if n == 4 then Some (Underline underline.Single)
    else if n == 5 then Some (Blink blink.Slow)
    else if n == 6 then Some (Blink blink.Rapid)
    else if n == 7 then Some (Inverse true)
    else if n == 8 then Some (Invisible true)
    else if n == 9 then Some (StrikeThrough true)
    else None

-- those of 21 to 29
abbrev pub switched_off : ℕ → Option Rendition
switched_off n = if n == 21 then Some (Underline underline.Double)
    else if n == 22 then Some (Intensity intensity.Normal)
    else if n == 23 then Some (Italic false)
    else if n == 24 then Some (Underline underline.None)
    else if n == 25 then Some (Blink blink.None)
    else if n == 26 then Some (Proportional true)
    else if n == 27 then Some (Inverse false)
    else if n == 28 then Some (Invisible false)
    else if n == 29 then Some (StrikeThrough false)
    else None

-- those of 50 to 75
abbrev pub decoration : ℕ → Option Rendition
decoration n = if n == 50 then Some (Proportional false)
    else if n == 51 then Some (Frame frame.Framed)
    else if n == 52 then Some (Frame frame.Encircled)
    else if n == 53 then Some (Overline true)
    else if n == 54 then Some (Frame frame.None)
    else if n == 55 then Some (Overline false)
    else if n == 59 then Some (UnderlineColor color.Default)
    else if n == 60 then Some (Ideogram ideogram.Underline)
    else if n == 61 then Some (Ideogram ideogram.DoubleUnderline)
    else if n == 62 then Some (Ideogram ideogram.Overline)
    else if n == 63 then Some (Ideogram ideogram.DoubleOverline)
    else if n == 64 then Some (Ideogram ideogram.StressMark)
    else if n == 65 then Some (Ideogram ideogram.None)
    else if n == 73 then Some (VerticalAlign align.SuperScript)
    else if n == 74 then Some (VerticalAlign align.SubScript)
    else if n == 75 then Some (VerticalAlign align.BaseLine)
    else None

-- those of 30 to 49, but for 38 and 48, which have more after them
abbrev pub color_rendition : ℕ → Option Rendition
color_rendition n = if is_from 30 37 n then Some (AnsiForeground (ansi_color_at (n - 30)))
    else if n == 39 then Some (Foreground color.Default)
    else if is_from 40 47 n then Some (AnsiBackground (ansi_color_at (n - 40)))
    else if n == 49 then Some (Background color.Default)
    else None

-- those of 90 to 107
abbrev pub bright_color : ℕ → Option Rendition
bright_color n = if is_from 90 97 n then Some (AnsiForeground (ansi_color_at (n - 82)))
    else if is_from 100 107 n then Some (AnsiBackground (ansi_color_at (n - 92)))
    else None

-- the rendition of a number alone
abbrev pub number_rendition : ℕ → Option Rendition
number_rendition n = if nat_le n 9 then switched_on n
    else if nat_le n 20 then Some (in_font (font_at (n - 10)))
    else if nat_le n 29 then switched_off n
    else if nat_le n 49 then color_rendition n
    else if nat_le n 75 then decoration n
    else bright_color n

-- the number of a colour, from the number of black on: the bright ones are 60 more
abbrev pub ansi_number : ℕ → ℕ → ℕ
ansi_number black n = if nat_le n 7 then black + n else black + 52 + n

-- the number that asks for a rendition, if one does
abbrev pub number_of : Rendition → Option ℕ
number_of Reset = Some 0
number_of (Intensity intensity.Bold) = Some 1
number_of (Intensity intensity.Half) = Some 2
number_of (Italic true) = Some 3
number_of (Underline underline.Single) = Some 4
number_of (Blink blink.Slow) = Some 5
number_of (Blink blink.Rapid) = Some 6
number_of (Inverse true) = Some 7
number_of (Invisible true) = Some 8
number_of (StrikeThrough true) = Some 9
number_of (Underline underline.Double) = Some 21
number_of (Intensity intensity.Normal) = Some 22
number_of (Italic false) = Some 23
number_of (Underline underline.None) = Some 24
number_of (Blink blink.None) = Some 25
number_of (Proportional true) = Some 26
number_of (Inverse false) = Some 27
number_of (Invisible false) = Some 28
number_of (StrikeThrough false) = Some 29
number_of (Proportional false) = Some 50
number_of (Frame frame.Framed) = Some 51
number_of (Frame frame.Encircled) = Some 52
number_of (Overline true) = Some 53
number_of (Frame frame.None) = Some 54
number_of (Overline false) = Some 55
number_of (UnderlineColor color.Default) = Some 59
number_of (Ideogram ideogram.Underline) = Some 60
number_of (Ideogram ideogram.DoubleUnderline) = Some 61
number_of (Ideogram ideogram.Overline) = Some 62
number_of (Ideogram ideogram.DoubleOverline) = Some 63
number_of (Ideogram ideogram.StressMark) = Some 64
number_of (Ideogram ideogram.None) = Some 65
number_of (VerticalAlign align.SuperScript) = Some 73
number_of (VerticalAlign align.SubScript) = Some 74
number_of (VerticalAlign align.BaseLine) = Some 75
number_of (Underline underline.Curly) = None
number_of (Underline underline.Dotted) = None
number_of (Underline underline.Dashed) = None
number_of (in_font f) = Some (10 + font_number f)
number_of (AnsiForeground c) = Some (ansi_number 30 (ansi_color_number c))
number_of (AnsiBackground c) = Some (ansi_number 40 (ansi_color_number c))
number_of (Foreground color.Default) = Some 39
number_of (Foreground (color.PaletteIndex n)) = None
number_of (Foreground (color.TrueColor c)) = None
number_of (Background color.Default) = Some 49
number_of (Background (color.PaletteIndex n)) = None
number_of (Background (color.TrueColor c)) = None
number_of (UnderlineColor (color.PaletteIndex n)) = None
number_of (UnderlineColor (color.TrueColor c)) = None
