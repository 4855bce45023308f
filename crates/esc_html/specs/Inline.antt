-- The look of a span in its attribute `style` alone: declarations of CSS, each of a property of a
-- fixed list with a keyword of a fixed list or with a colour by numbers, and a semicolon.
use Rattle.std.specs.Prelude.{ℕ, Bool, true, false, ◌||◌, if◌then◌else◌, List, [], ◌++◌, codes, Option, Some, None}
use Rattle.esc_html.specs.Shades.{ansi_rgb, around_rgb, text_rgb}
use Rattle.esc_style.specs.Colors.{palette}
use Rattle.esc_style.specs.Looks.{seen_foreground, shown_background}
use Rattle.esc_style.specs.Styles.{style_text}
use Rattle.esc_style.specs.declared.color.Color.{Color}
use Rattle.esc_style.specs.declared.color.Color.TheVariants.{Default, Named, Palette, Direct}
use Rattle.esc_style.specs.declared.look.Look.{Look}
use Rattle.esc_style.specs.declared.style.Style.{Style}
use Rattle.esc_style.specs.declared.style.Style.TheVariants as style
use Rattle.esc_sequences.specs.declared.underline.Underline.{Underline}
use Rattle.esc_sequences.specs.declared.underline.Underline.TheVariants as underline
use Rattle.esc_html.specs.declared.inline.Declared.{Declared}
use Rattle.esc_html.specs.declared.inline.Declared.TheVariants.{Keyword, Numbers}

-- how bright characters are: bold ones may be faint too
abbrev pub bold_text : Bool → List ℕ
bold_text b = if b then codes "font-weight:bold;" else []

abbrev pub faint_text : Bool → List ℕ
faint_text b = if b then codes "opacity:0.8;" else []

abbrev pub weight_text : Bool → Bool → List ℕ
weight_text bold faint = bold_text bold ++ faint_text faint

-- whether they are slanted
abbrev pub slant_text : Bool → List ℕ
slant_text b = if b then codes "font-style:italic;" else []

-- the lines at them: under, through and over; and that they blink, which CSS has among these
abbrev pub is_underlined : Underline → Bool
is_underlined underline.None = false
is_underlined underline.Single = true
is_underlined underline.Double = true
is_underlined underline.Curly = true
is_underlined underline.Dotted = true
is_underlined underline.Dashed = true

abbrev pub line_text : Bool → List ℕ → List ℕ
line_text b t = if b then t else []

abbrev pub lines_text : Bool → Bool → Bool → Bool → List ℕ
lines_text under through over blink =
    if under || through || over || blink then codes "text-decoration-line:"
    ++ (line_text under (codes " underline") ++ (line_text through (codes " line-through")
    ++ (line_text over (codes " overline") ++ (line_text blink (codes " blink") ++ codes ";"))))
    else []

-- the kind of the line
abbrev pub kind_text : Underline → List ℕ
kind_text underline.None = []
kind_text underline.Single = []
kind_text underline.Double = codes "text-decoration-style:double;"
kind_text underline.Curly = codes "text-decoration-style:wavy;"
kind_text underline.Dotted = codes "text-decoration-style:dotted;"
kind_text underline.Dashed = codes "text-decoration-style:dashed;"

-- a colour by numbers: the page's own has none
abbrev pub rgb_of : Color → Option (ℕ × ℕ × ℕ)
rgb_of Default = None
rgb_of (Named c) = Some (ansi_rgb c)
rgb_of (Palette n) = Some (palette n)
rgb_of (Direct c) = Some c

abbrev pub declared_as : (ℕ × ℕ × ℕ → Style) → List ℕ → Option (ℕ × ℕ × ℕ) → List ℕ
declared_as f t None = t
declared_as f t (Some c) = style_text (f c)

abbrev pub color_style : ℕ × ℕ × ℕ → Style
color_style c = style.Color c.0 c.1 c.2

abbrev pub background_style : ℕ × ℕ × ℕ → Style
background_style c = style.BackgroundColor c.0 c.1 c.2

abbrev pub decoration_style : ℕ × ℕ × ℕ → Style
decoration_style c = style.TextDecorationColor c.0 c.1 c.2

-- the colour of the characters, with this around them: transparent if they are concealed; if both
-- are the page's own and exchanged, the keyword for that
abbrev pub foreground_text : Bool → Bool → Color → Color → List ℕ
foreground_text concealed inverse t g =
    if concealed then codes "color:transparent;"
    else declared_as color_style (if inverse then codes "color:Canvas;" else [])
    (text_rgb inverse t g)

-- the one around them
abbrev pub background_text : Bool → Color → Color → List ℕ
background_text inverse t g = declared_as background_style
    (if inverse then codes "background-color:CanvasText;" else []) (around_rgb t g)

-- and that of their underline
abbrev pub decoration_text : Color → List ℕ
decoration_text c = declared_as decoration_style [] (rgb_of c)

-- the declaration that a call gives for a colour
abbrev pub declared_text : Declared → List ℕ
declared_text (Keyword t) = t.now
declared_text (Numbers s) = style_text s

-- ---- all of them

abbrev pub keywords_text : Look → List ℕ
keywords_text l = weight_text l.bold l.faint
    ++ (slant_text l.italic
    ++ (lines_text (is_underlined l.underline) l.strikethrough l.overline l.blink
    ++ kind_text l.underline))

abbrev pub colors_text : Look → List ℕ
colors_text l = foreground_text l.concealed l.inverse (seen_foreground l) (shown_background l)
    ++ (background_text l.inverse (seen_foreground l) (shown_background l)
    ++ decoration_text l.underline_color)

abbrev pub inline_text : Look → List ℕ
inline_text l = keywords_text l ++ colors_text l
