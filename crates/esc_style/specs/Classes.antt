-- The names of classes, in an attribute `class`.
use Rattle.std.specs.Prelude.{ℕ, ◌+◌, ◌/◌, ◌%◌, nat_lt, Bool, if◌then◌else◌, List, [], ◌∷◌, ◌++◌, codes, Option, Some, None}
use Rattle.typed_functions.specs.declared.ansi_color.AnsiColor.{AnsiColor}
use Rattle.typed_functions.specs.declared.ansi_color.AnsiColor.TheVariants as ansi
use Rattle.esc_style.specs.declared.class.Class.{Class}
use Rattle.esc_style.specs.declared.class.Class.TheVariants.{Background, Blink, Bold, Concealed, CurlyUnderline, DashedUnderline, DottedUnderline, DoubleUnderline, Faint, Foreground, Inverse, Italic, Overline, PaletteBackground, PaletteForeground, PaletteUnderline, Strikethrough, Underline, UnderlineColor}

-- a colour that has a name
abbrev pub color_name : AnsiColor → List ℕ
color_name ansi.Black = codes "black"
color_name ansi.Red = codes "red"
color_name ansi.Green = codes "green"
color_name ansi.Yellow = codes "yellow"
color_name ansi.Blue = codes "blue"
color_name ansi.Magenta = codes "magenta"
color_name ansi.Cyan = codes "cyan"
color_name ansi.White = codes "white"
color_name ansi.BrightBlack = codes "bright-black"
color_name ansi.BrightRed = codes "bright-red"
color_name ansi.BrightGreen = codes "bright-green"
color_name ansi.BrightYellow = codes "bright-yellow"
color_name ansi.BrightBlue = codes "bright-blue"
color_name ansi.BrightMagenta = codes "bright-magenta"
color_name ansi.BrightCyan = codes "bright-cyan"
color_name ansi.BrightWhite = codes "bright-white"

-- the class of a colour of characters, of their background, and of their underline
abbrev pub foreground_name : AnsiColor → List ℕ
foreground_name c = codes "fg-" ++ color_name c

abbrev pub background_name : AnsiColor → List ℕ
background_name c = codes "bg-" ++ color_name c

abbrev pub underline_color_name : AnsiColor → List ℕ
underline_color_name c = codes "ul-" ++ color_name c

-- the name of a class, up to the entry of the palette that it ends in
abbrev pub stem : Class → List ℕ
stem Bold = codes "bold"
stem Faint = codes "faint"
stem Italic = codes "italic"
stem Underline = codes "underline"
stem DoubleUnderline = codes "double-underline"
stem CurlyUnderline = codes "curly-underline"
stem DottedUnderline = codes "dotted-underline"
stem DashedUnderline = codes "dashed-underline"
stem Blink = codes "blink"
stem Inverse = codes "inverse"
stem Concealed = codes "concealed"
stem Strikethrough = codes "strikethrough"
stem Overline = codes "overline"
stem (Foreground c) = foreground_name c
stem (Background c) = background_name c
stem (UnderlineColor c) = underline_color_name c
stem (PaletteForeground n) = codes "fg-"
stem (PaletteBackground n) = codes "bg-"
stem (PaletteUnderline n) = codes "ul-"

-- this entry
abbrev pub index_of : Class → Option ℕ
index_of (PaletteForeground n) = Some n
index_of (PaletteBackground n) = Some n
index_of (PaletteUnderline n) = Some n
index_of _ = None

-- in decimal digits: from 16 on there are two or three
abbrev pub two_digits : ℕ → List ℕ
two_digits n = (0x30 + n / 10 % 10) ∷ (0x30 + n % 10) ∷ []

abbrev pub index_digits : ℕ → List ℕ
index_digits n = if nat_lt n 100 then two_digits n else (0x30 + n / 100 % 10) ∷ two_digits n

abbrev pub index_text : Option ℕ → List ℕ
index_text None = []
index_text (Some n) = index_digits n

abbrev pub class_name : Class → List ℕ
class_name c = stem c ++ index_text (index_of c)

-- a name that comes next: the first as it is, and any other after a space
abbrev pub next_name : Bool → Class → List ℕ
next_name first c = if first then class_name c else 0x20 ∷ class_name c

-- the names, each after a space
abbrev pub more_names : List Class → List ℕ
more_names [] = []
more_names (c ∷ cs) = 0x20 ∷ (class_name c ++ more_names cs)

-- the names, with a space between them: a set of space-separated tokens (WHATWG HTML, 2.3.7)
abbrev pub class_names : List Class → List ℕ
class_names [] = []
class_names (c ∷ cs) = class_name c ++ more_names cs
