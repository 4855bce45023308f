-- The normal spelling of renditions reads back.
use Rattle.std.proofs.Common.{ℕ, ◌≡◌, ◌<◌, true, false, nat_le, List, [], ◌∷◌, ◌++◌, length, map, Some}
use Rattle.std.proofs.Common.{refl, ap, ◌∙◌, arith}
use Rattle.std.proofs.lemmas.Bool.{le-leb}
use Rattle.std.proofs.lemmas.List.{append-nil, length-append}
use Rattle.std.proofs.Math.Seq.{take-append_seam, drop-append-add}
use Rattle.esc_values.specs.declared.csi_param.CsiParam.{CsiParam}
use Rattle.esc_values.specs.declared.csi_param.CsiParam.TheVariants.{P}
use Rattle.esc_sequences.specs.declared.intensity.Intensity.TheVariants as intensity
use Rattle.esc_sequences.specs.declared.underline.Underline.TheVariants as underline
use Rattle.typed_functions.specs.declared.ansi_color.AnsiColor.{AnsiColor}
use Rattle.typed_functions.specs.declared.ansi_color.AnsiColor.TheVariants as ansi
use Rattle.typed_functions.specs.declared.blink.Blink.TheVariants as blink
use Rattle.typed_functions.specs.declared.color_spec.ColorSpec.{ColorSpec}
use Rattle.typed_functions.specs.declared.color_spec.ColorSpec.TheVariants as color
use Rattle.typed_functions.specs.declared.font.Font.{Font as AnyFont}
use Rattle.typed_functions.specs.declared.font.Font.TheVariants as font
use Rattle.typed_functions.specs.declared.frame.Frame.TheVariants as frame
use Rattle.typed_functions.specs.declared.ideogram.Ideogram.TheVariants as ideogram
use Rattle.typed_functions.specs.declared.vertical_align.VerticalAlign.TheVariants as align
use Rattle.typed_functions.specs.declared.rendition.Rendition.{Rendition}
use Rattle.typed_functions.specs.declared.rendition.Rendition.TheVariants.{Reset, Intensity, Italic, Underline, Blink, Inverse, Invisible, StrikeThrough, Font, Proportional, AnsiForeground, AnsiBackground, Foreground, Background, UnderlineColor, Frame, Overline, Ideogram, VerticalAlign}
use Rattle.typed_functions.specs.Renditions.{IsRendition, AreRenditions, normal_params, rendition_of}
use Rattle.typed_functions.specs.Selections.{first_len, separators, cut_entries, joined_entries, selection_of, selections, spelled_rendition}
use Rattle.typed_functions.proofs.Cutting.{first_cut, last_cut}

-- the facts to show about each rendition: it reads back, and so does its end
pub record Back (r : Rendition) : Type 0 where
  pub read : rendition_of (normal_params r) ≡ Some r
  pub last : first_len (normal_params r) ≡ length (normal_params r)
  pub first : (x : List CsiParam) → first_len (normal_params r ++ P 0x3b ∷ x)
      ≡ length (normal_params r)

all_fonts : (f : AnyFont) → Back (Font f)
all_fonts font.Default = record { read = refl; last = refl; first = λ x. refl }
all_fonts font.Alternate1 = record { read = refl; last = refl; first = λ x. refl }
all_fonts font.Alternate2 = record { read = refl; last = refl; first = λ x. refl }
all_fonts font.Alternate3 = record { read = refl; last = refl; first = λ x. refl }
all_fonts font.Alternate4 = record { read = refl; last = refl; first = λ x. refl }
all_fonts font.Alternate5 = record { read = refl; last = refl; first = λ x. refl }
all_fonts font.Alternate6 = record { read = refl; last = refl; first = λ x. refl }
all_fonts font.Alternate7 = record { read = refl; last = refl; first = λ x. refl }
all_fonts font.Alternate8 = record { read = refl; last = refl; first = λ x. refl }
all_fonts font.Alternate9 = record { read = refl; last = refl; first = λ x. refl }
all_fonts font.Fraktur = record { read = refl; last = refl; first = λ x. refl }

all_fore : (c : AnsiColor) → Back (AnsiForeground c)
all_fore ansi.Black = record { read = refl; last = refl; first = λ x. refl }
all_fore ansi.Red = record { read = refl; last = refl; first = λ x. refl }
all_fore ansi.Green = record { read = refl; last = refl; first = λ x. refl }
all_fore ansi.Yellow = record { read = refl; last = refl; first = λ x. refl }
all_fore ansi.Blue = record { read = refl; last = refl; first = λ x. refl }
all_fore ansi.Magenta = record { read = refl; last = refl; first = λ x. refl }
all_fore ansi.Cyan = record { read = refl; last = refl; first = λ x. refl }
all_fore ansi.White = record { read = refl; last = refl; first = λ x. refl }
all_fore ansi.BrightBlack = record { read = refl; last = refl; first = λ x. refl }
all_fore ansi.BrightRed = record { read = refl; last = refl; first = λ x. refl }
all_fore ansi.BrightGreen = record { read = refl; last = refl; first = λ x. refl }
all_fore ansi.BrightYellow = record { read = refl; last = refl; first = λ x. refl }
all_fore ansi.BrightBlue = record { read = refl; last = refl; first = λ x. refl }
all_fore ansi.BrightMagenta = record { read = refl; last = refl; first = λ x. refl }
all_fore ansi.BrightCyan = record { read = refl; last = refl; first = λ x. refl }
all_fore ansi.BrightWhite = record { read = refl; last = refl; first = λ x. refl }

all_back : (c : AnsiColor) → Back (AnsiBackground c)
all_back ansi.Black = record { read = refl; last = refl; first = λ x. refl }
all_back ansi.Red = record { read = refl; last = refl; first = λ x. refl }
all_back ansi.Green = record { read = refl; last = refl; first = λ x. refl }
all_back ansi.Yellow = record { read = refl; last = refl; first = λ x. refl }
all_back ansi.Blue = record { read = refl; last = refl; first = λ x. refl }
all_back ansi.Magenta = record { read = refl; last = refl; first = λ x. refl }
all_back ansi.Cyan = record { read = refl; last = refl; first = λ x. refl }
all_back ansi.White = record { read = refl; last = refl; first = λ x. refl }
all_back ansi.BrightBlack = record { read = refl; last = refl; first = λ x. refl }
all_back ansi.BrightRed = record { read = refl; last = refl; first = λ x. refl }
all_back ansi.BrightGreen = record { read = refl; last = refl; first = λ x. refl }
all_back ansi.BrightYellow = record { read = refl; last = refl; first = λ x. refl }
all_back ansi.BrightBlue = record { read = refl; last = refl; first = λ x. refl }
all_back ansi.BrightMagenta = record { read = refl; last = refl; first = λ x. refl }
all_back ansi.BrightCyan = record { read = refl; last = refl; first = λ x. refl }
all_back ansi.BrightWhite = record { read = refl; last = refl; first = λ x. refl }

byte : (n : ℕ) → n < 256 → nat_le n 255 ≡ true
byte n h = le-leb n 255 (omega (arith, h))

of_Foreground : (c : ColorSpec) → IsRendition (Foreground c) → Back (Foreground c)
of_Foreground color.Default h = record { read = refl; last = refl; first = λ x. refl }
of_Foreground (color.PaletteIndex n) h =
    record { read = rw (byte n h) refl; last = refl; first = λ x. refl }
of_Foreground (color.TrueColor c) h = record {
  read = rw (byte c.0 h.0, byte c.1 h.1, byte c.2 h.2) refl;
  last = refl;
  first = λ x. refl;
}

of_Background : (c : ColorSpec) → IsRendition (Background c) → Back (Background c)
of_Background color.Default h = record { read = refl; last = refl; first = λ x. refl }
of_Background (color.PaletteIndex n) h =
    record { read = rw (byte n h) refl; last = refl; first = λ x. refl }
of_Background (color.TrueColor c) h = record {
  read = rw (byte c.0 h.0, byte c.1 h.1, byte c.2 h.2) refl;
  last = refl;
  first = λ x. refl;
}

of_UnderlineColor : (c : ColorSpec) → IsRendition (UnderlineColor c) → Back (UnderlineColor c)
of_UnderlineColor color.Default h = record { read = refl; last = refl; first = λ x. refl }
of_UnderlineColor (color.PaletteIndex n) h =
    record { read = rw (byte n h) refl; last = refl; first = λ x. refl }
of_UnderlineColor (color.TrueColor c) h = record {
  read = rw (byte c.0 h.0, byte c.1 h.1, byte c.2 h.2) refl;
  last = refl;
  first = λ x. refl;
}

pub back : (r : Rendition) → IsRendition r → Back r
back Reset h = record { read = refl; last = refl; first = λ x. refl }
back (Intensity intensity.Normal) h = record { read = refl; last = refl; first = λ x. refl }
back (Intensity intensity.Bold) h = record { read = refl; last = refl; first = λ x. refl }
back (Intensity intensity.Half) h = record { read = refl; last = refl; first = λ x. refl }
back (Italic true) h = record { read = refl; last = refl; first = λ x. refl }
back (Italic false) h = record { read = refl; last = refl; first = λ x. refl }
back (Inverse true) h = record { read = refl; last = refl; first = λ x. refl }
back (Inverse false) h = record { read = refl; last = refl; first = λ x. refl }
back (Invisible true) h = record { read = refl; last = refl; first = λ x. refl }
back (Invisible false) h = record { read = refl; last = refl; first = λ x. refl }
back (StrikeThrough true) h = record { read = refl; last = refl; first = λ x. refl }
back (StrikeThrough false) h = record { read = refl; last = refl; first = λ x. refl }
back (Proportional true) h = record { read = refl; last = refl; first = λ x. refl }
back (Proportional false) h = record { read = refl; last = refl; first = λ x. refl }
back (Overline true) h = record { read = refl; last = refl; first = λ x. refl }
back (Overline false) h = record { read = refl; last = refl; first = λ x. refl }
back (Underline underline.None) h = record { read = refl; last = refl; first = λ x. refl }
back (Underline underline.Single) h = record { read = refl; last = refl; first = λ x. refl }
back (Underline underline.Double) h = record { read = refl; last = refl; first = λ x. refl }
back (Underline underline.Curly) h = record { read = refl; last = refl; first = λ x. refl }
back (Underline underline.Dotted) h = record { read = refl; last = refl; first = λ x. refl }
back (Underline underline.Dashed) h = record { read = refl; last = refl; first = λ x. refl }
back (Blink blink.None) h = record { read = refl; last = refl; first = λ x. refl }
back (Blink blink.Slow) h = record { read = refl; last = refl; first = λ x. refl }
back (Blink blink.Rapid) h = record { read = refl; last = refl; first = λ x. refl }
back (Frame frame.None) h = record { read = refl; last = refl; first = λ x. refl }
back (Frame frame.Framed) h = record { read = refl; last = refl; first = λ x. refl }
back (Frame frame.Encircled) h = record { read = refl; last = refl; first = λ x. refl }
back (Ideogram ideogram.Underline) h = record { read = refl; last = refl; first = λ x. refl }
back (Ideogram ideogram.DoubleUnderline) h = record { read = refl; last = refl; first = λ x. refl }
back (Ideogram ideogram.Overline) h = record { read = refl; last = refl; first = λ x. refl }
back (Ideogram ideogram.DoubleOverline) h = record { read = refl; last = refl; first = λ x. refl }
back (Ideogram ideogram.StressMark) h = record { read = refl; last = refl; first = λ x. refl }
back (Ideogram ideogram.None) h = record { read = refl; last = refl; first = λ x. refl }
back (VerticalAlign align.BaseLine) h = record { read = refl; last = refl; first = λ x. refl }
back (VerticalAlign align.SuperScript) h = record { read = refl; last = refl; first = λ x. refl }
back (VerticalAlign align.SubScript) h = record { read = refl; last = refl; first = λ x. refl }
back (Font f) h = all_fonts f
back (AnsiForeground c) h = all_fore c
back (AnsiBackground c) h = all_back c
back (Foreground c) h = of_Foreground c h
back (Background c) h = of_Background c h
back (UnderlineColor c) h = of_UnderlineColor c h

pub reads_back : (r : Rendition) → IsRendition r → rendition_of (normal_params r) ≡ Some r
reads_back r h = (back r h).read

-- ---- several

one_more : (r : Rendition) (x : List CsiParam) → IsRendition r
    → cut_entries (normal_params r ++ P 0x3b ∷ x) ≡ normal_params r ∷ cut_entries x
one_more r x h =
    let len = (back r h).first x in
    let below : first_len (normal_params r ++ P 0x3b ∷ x) < length (normal_params r ++ P 0x3b ∷ x) =
    omega (arith, len, length-append (normal_params r) (P 0x3b ∷ x)) in
    first_cut separators (normal_params r ++ P 0x3b ∷ x) below
    ∙ rw (
      len,
      take-append_seam (normal_params r) (P 0x3b ∷ x),
      drop-append-add (normal_params r)
          (P 0x3b ∷ x) 1,
    )
    refl

cut_back : (r : Rendition) (rs : List Rendition) → AreRenditions (r ∷ rs)
    → cut_entries (joined_entries (map normal_params (r ∷ rs))) ≡ map normal_params (r ∷ rs)
cut_back r [] h = ap cut_entries (append-nil (normal_params r))
    ∙ last_cut separators (normal_params r) (back r h.0).last
cut_back r (q ∷ qs) h =
    one_more r (joined_entries (map normal_params (q ∷ qs))) h.0
    ∙ ap (λ x. normal_params r ∷ x) (cut_back q qs h.1)

each_back : (rs : List Rendition) → AreRenditions rs
    → map selection_of (map normal_params rs) ≡ map spelled_rendition rs
each_back [] h = refl
each_back (r ∷ rs) h = rw (reads_back r h.0, each_back rs h.1) refl

pub list_reads_back : (r : Rendition) (rs : List Rendition) → AreRenditions (r ∷ rs)
    → selections (joined_entries (map normal_params (r ∷ rs))) ≡ map spelled_rendition (r ∷ rs)
list_reads_back r rs h = ap (map selection_of) (cut_back r rs h) ∙ each_back (r ∷ rs) h
