-- How characters are written from here on: the renditions that hold for them.
use Rattle.std.specs.Prelude.{true, false, List, [], ◌∷◌, Option, Some, None}
use Rattle.esc_values.specs.declared.csi_param.CsiParam.{CsiParam}
use Rattle.esc_sequences.specs.declared.intensity.Intensity.{Intensity as Strength}
use Rattle.esc_sequences.specs.declared.intensity.Intensity.TheVariants as intensity
use Rattle.esc_sequences.specs.declared.underline.Underline.TheVariants as underline
use Rattle.typed_functions.specs.declared.blink.Blink.TheVariants as blink
use Rattle.typed_functions.specs.declared.color_spec.ColorSpec.TheVariants as color
use Rattle.typed_functions.specs.declared.rendition.Rendition.{Rendition}
use Rattle.typed_functions.specs.declared.rendition.Rendition.TheVariants.{Reset, Intensity, Italic, Underline, Blink, Inverse, Invisible, StrikeThrough, AnsiForeground, AnsiBackground, Foreground, Background, UnderlineColor, Overline}
use Rattle.esc_pen.specs.declared.ink.Ink.{Ink}
use Rattle.esc_pen.specs.declared.ink.Ink.TheVariants as ink
use Rattle.esc_pen.specs.declared.pen.Pen.{Pen}

-- as at first
abbrev pub plain_pen : Pen
plain_pen = record {
  bold = false;
  faint = false;
  italic = false;
  underline = underline.None;
  blink = blink.None;
  inverse = false;
  concealed = false;
  strikethrough = false;
  overline = false;
  foreground = ink.Other color.Default;
  background = ink.Other color.Default;
  underline_color = color.Default;
}

-- bold and faint hold together, until neither holds
abbrev pub with_intensity : Pen → Strength → Pen
with_intensity p intensity.Normal = record p {
  bold = false;
  faint = false;
}
with_intensity p intensity.Bold = record p { bold = true }
with_intensity p intensity.Half = record p { faint = true }

-- the pen after a rendition
abbrev pub pen_by : Pen → Rendition → Pen
pen_by p Reset = plain_pen
pen_by p (Intensity i) = with_intensity p i
pen_by p (Italic b) = record p { italic = b }
pen_by p (Underline u) = record p { underline = u }
pen_by p (Blink b) = record p { blink = b }
pen_by p (Inverse b) = record p { inverse = b }
pen_by p (Invisible b) = record p { concealed = b }
pen_by p (StrikeThrough b) = record p { strikethrough = b }
pen_by p (Overline b) = record p { overline = b }
pen_by p (AnsiForeground c) = record p { foreground = ink.Named c }
pen_by p (AnsiBackground c) = record p { background = ink.Named c }
pen_by p (Foreground c) = record p { foreground = ink.Other c }
pen_by p (Background c) = record p { background = ink.Other c }
pen_by p (UnderlineColor c) = record p { underline_color = c }
pen_by p _ = p

-- one that is not known leaves it
abbrev pub pen_by_optional : Pen → Option Rendition → Pen
pen_by_optional p None = p
pen_by_optional p (Some r) = pen_by p r

-- after renditions, one after another, each with its entries
abbrev pub pen_by_all : Pen → List (Option Rendition × List CsiParam) → Pen
pen_by_all p [] = p
pen_by_all p (r ∷ rs) = pen_by_all (pen_by_optional p r.0) rs
