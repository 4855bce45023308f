-- How characters look: the renditions that hold for them.
use Rattle.std.specs.Prelude.{Bool, true, false, ◌&&◌, if◌then◌else◌, List, [], ◌∷◌, Option, Some, None, is_none}
use Rattle.std.specs.List.{list_all}
use Rattle.esc_values.specs.declared.csi_param.CsiParam.{CsiParam}
use Rattle.esc_sequences.specs.Csis.{CsiValue}
use Rattle.esc_sequences.specs.declared.intensity.Intensity.{Intensity as IntensityKind}
use Rattle.esc_sequences.specs.declared.intensity.Intensity.TheVariants as intensity
use Rattle.esc_sequences.specs.declared.underline.Underline.{Underline as UnderlineKind}
use Rattle.esc_sequences.specs.declared.underline.Underline.TheVariants as underline
use Rattle.typed_functions.specs.Functions.{Value, renditions, of_csi}
use Rattle.typed_functions.specs.declared.blink.Blink.{Blink as BlinkKind}
use Rattle.typed_functions.specs.declared.blink.Blink.TheVariants as blink
use Rattle.typed_functions.specs.declared.rendition.Rendition.{Rendition}
use Rattle.typed_functions.specs.declared.rendition.Rendition.TheVariants.{Reset, Intensity, Italic, Underline, Blink, Inverse, Invisible, StrikeThrough, AnsiForeground, AnsiBackground, Foreground, Background, UnderlineColor, Overline}
use Rattle.esc_style.specs.Colors.{color_of}
use Rattle.esc_style.specs.declared.class.Class.{Class}
use Rattle.esc_style.specs.declared.class.Class.TheVariants as class
use Rattle.esc_style.specs.declared.color.Color.{Color}
use Rattle.esc_style.specs.declared.color.Color.TheVariants as color
use Rattle.esc_style.specs.declared.look.Look.{Look}
use Rattle.esc_style.specs.declared.style.Style.{Style}
use Rattle.esc_style.specs.declared.style.Style.TheVariants as style

-- as at first
abbrev pub plain_look : Look
plain_look = record {
  bold = false;
  faint = false;
  italic = false;
  underline = underline.None;
  blink = false;
  inverse = false;
  concealed = false;
  strikethrough = false;
  overline = false;
  foreground = color.Default;
  background = color.Default;
  underline_color = color.Default;
}

abbrev pub is_blinking : BlinkKind → Bool
is_blinking blink.None = false
is_blinking blink.Slow = true
is_blinking blink.Rapid = true

-- Bold and faint may hold together, as in xterm and kitty; SGR 22 ends both.
abbrev pub with_intensity : Look → IntensityKind → Look
with_intensity l intensity.Normal = record l { bold = false; faint = false }
with_intensity l intensity.Bold = record l { bold = true }
with_intensity l intensity.Half = record l { faint = true }

-- the look after a rendition
abbrev pub look_by : Look → Rendition → Look
look_by l Reset = plain_look
look_by l (Intensity i) = with_intensity l i
look_by l (Italic b) = record l { italic = b }
look_by l (Underline u) = record l { underline = u }
look_by l (Blink b) = record l { blink = is_blinking b }
look_by l (Inverse b) = record l { inverse = b }
look_by l (Invisible b) = record l { concealed = b }
look_by l (StrikeThrough b) = record l { strikethrough = b }
look_by l (Overline b) = record l { overline = b }
look_by l (AnsiForeground c) = record l { foreground = color.Named c }
look_by l (AnsiBackground c) = record l { background = color.Named c }
look_by l (Foreground c) = record l { foreground = color_of c }
look_by l (Background c) = record l { background = color_of c }
look_by l (UnderlineColor c) = record l { underline_color = color_of c }
look_by l _ = l

-- one that is not known leaves it
abbrev pub look_by_optional : Look → Option Rendition → Look
look_by_optional l None = l
look_by_optional l (Some r) = look_by l r

-- after renditions, one after another
abbrev pub look_by_all : Look → List (Option Rendition × List CsiParam) → Look
look_by_all l [] = l
look_by_all l (r ∷ rs) = look_by_all (look_by_optional l r.0) rs

-- after the request of a control sequence: any but SGR leaves it
abbrev pub look_for : Look → Value → Look
look_for l (renditions rs) = look_by_all l rs
look_for l _ = l

abbrev pub look_after : Look → CsiValue → Look
look_after l c = look_for l (of_csi c)

-- ---- the classes and the styles of a look

abbrev pub class_if : Bool → Class → Option Class
class_if b c = if b then Some c else None

abbrev pub underline_class : UnderlineKind → Option Class
underline_class underline.None = None
underline_class underline.Single = Some class.Underline
underline_class underline.Double = Some class.DoubleUnderline
underline_class underline.Curly = Some class.CurlyUnderline
underline_class underline.Dotted = Some class.DottedUnderline
underline_class underline.Dashed = Some class.DashedUnderline

abbrev pub foreground_class : Color → Option Class
foreground_class (color.Named c) = Some (class.Foreground c)
foreground_class (color.Palette n) = Some (class.PaletteForeground n)
foreground_class _ = None

abbrev pub background_class : Color → Option Class
background_class (color.Named c) = Some (class.Background c)
background_class (color.Palette n) = Some (class.PaletteBackground n)
background_class _ = None

abbrev pub underline_color_class : Color → Option Class
underline_color_class (color.Named c) = Some (class.UnderlineColor c)
underline_color_class (color.Palette n) = Some (class.PaletteUnderline n)
underline_color_class _ = None

abbrev pub foreground_style : Color → Option Style
foreground_style (color.Direct c) = Some (style.Color c.0 c.1 c.2)
foreground_style _ = None

abbrev pub background_style : Color → Option Style
background_style (color.Direct c) = Some (style.BackgroundColor c.0 c.1 c.2)
background_style _ = None

abbrev pub underline_color_style : Color → Option Style
underline_color_style (color.Direct c) = Some (style.TextDecorationColor c.0 c.1 c.2)
underline_color_style _ = None

-- the colour in which characters are shown, and the one around them: exchanged if it is inverse
abbrev pub shown_foreground : Look → Color
shown_foreground l = if l.inverse then l.background else l.foreground

-- the same, but for that of concealed ones, which are not seen in any
abbrev pub seen_foreground : Look → Color
seen_foreground l = if l.concealed then color.Default else shown_foreground l

abbrev pub shown_background : Look → Color
shown_background l = if l.inverse then l.foreground else l.background

-- its classes, each if it is there
abbrev pub look_classes : Look → List (Option Class)
look_classes l = class_if l.bold class.Bold
    ∷ class_if l.faint class.Faint
    ∷ class_if l.italic class.Italic
    ∷ underline_class l.underline
    ∷ class_if l.blink class.Blink
    ∷ class_if l.inverse class.Inverse
    ∷ class_if l.concealed class.Concealed
    ∷ class_if l.strikethrough class.Strikethrough
    ∷ class_if l.overline class.Overline
    ∷ foreground_class (seen_foreground l)
    ∷ background_class (shown_background l)
    ∷ underline_color_class l.underline_color
    ∷ []

-- its styles, each if it is there
abbrev pub look_styles : Look → List (Option Style)
look_styles l = foreground_style (seen_foreground l)
    ∷ background_style (shown_background l)
    ∷ underline_color_style l.underline_color
    ∷ []

-- the ones that are there
abbrev pub values_of : {X : Type 0} → List (Option X) → List X
values_of [] = []
values_of (None ∷ xs) = values_of xs
values_of (Some x ∷ xs) = x ∷ values_of xs

-- a look with neither a class nor a style needs no span
abbrev pub is_plain : Look → Bool
is_plain l = list_all is_none (look_classes l) && list_all is_none (look_styles l)
