-- Looks without renditions, field by field.
use Rattle.std.specs.Prelude.{Bool, true, false, not, ◌&&◌, is_none}
use Rattle.esc_sequences.specs.declared.intensity.Intensity.TheVariants as intensity
use Rattle.esc_sequences.specs.declared.underline.Underline.{Underline as UnderlineKind}
use Rattle.esc_sequences.specs.declared.underline.Underline.TheVariants as underline
use Rattle.typed_functions.specs.declared.ansi_color.AnsiColor.{AnsiColor}
use Rattle.typed_functions.specs.declared.rendition.Rendition.{Rendition}
use Rattle.typed_functions.specs.declared.rendition.Rendition.TheVariants.{Intensity, Italic, Underline, Inverse, StrikeThrough}
use Rattle.esc_html.specs.declared.mark.Mark.{Mark}
use Rattle.esc_html.specs.declared.mark.Mark.TheVariants as mark
use Rattle.esc_html.specs.declared.page_look.Kind.{Kind}
use Rattle.esc_html.specs.declared.page_look.Kind.TheVariants as kind
use Rattle.esc_style.specs.Looks.{is_plain, look_by, plain_look, underline_class}
use Rattle.esc_style.specs.declared.color.Color.{Color}
use Rattle.esc_style.specs.declared.color.Color.TheVariants.{Default, Named, Palette, Direct}
use Rattle.esc_style.specs.declared.look.Look.{Look}

-- none of the renditions but colours holds
abbrev pub is_markless : Look → Bool
is_markless l = not l.bold
    && (not l.faint
    && (not l.italic
    && (is_none (underline_class l.underline)
    && (not l.blink && (not l.inverse && (not l.concealed && (not l.strikethrough
    && not l.overline)))))))

-- the page's own
abbrev pub is_own : Color → Bool
is_own Default = true
is_own (Named c) = false
is_own (Palette n) = false
is_own (Direct c) = false

abbrev pub is_colorless : Look → Bool
is_colorless l = is_own l.foreground && (is_own l.background && is_own l.underline_color)

-- a colour of the characters by its name, and nothing else
abbrev pub color_look : AnsiColor → Look
color_look c = record plain_look { foreground = Named c }

-- none of the renditions but a colour of the characters holds
abbrev pub is_colored_alone : Look → Bool
is_colored_alone l = is_markless l && (is_own l.background && is_own l.underline_color)

-- a colour by its name
abbrev pub is_named : Color → Bool
is_named Default = false
is_named (Named c) = true
is_named (Palette n) = false
is_named (Direct c) = false

-- nothing holds but a colour of the characters by its name
abbrev pub is_colored : Look → Bool
is_colored l = is_colored_alone l && is_named l.foreground

-- a mark as one of all renditions
abbrev pub marking : Mark → Rendition
marking mark.Bold = Intensity intensity.Bold
marking mark.Faint = Intensity intensity.Half
marking mark.Italic = Italic true
marking mark.Underlined = Underline underline.Single
marking mark.Inverse = Inverse true
marking mark.Strikethrough = StrikeThrough true

-- a mark, and nothing else
abbrev pub mark_look : Mark → Look
mark_look m = look_by plain_look (marking m)

abbrev pub is_single : UnderlineKind → Bool
is_single underline.None = false
is_single underline.Single = true
is_single underline.Double = false
is_single underline.Curly = false
is_single underline.Dotted = false
is_single underline.Dashed = false

-- a mark holds
abbrev pub has_mark : Mark → Look → Bool
has_mark mark.Bold l = l.bold
has_mark mark.Faint l = l.faint
has_mark mark.Italic l = l.italic
has_mark mark.Underlined l = is_single l.underline
has_mark mark.Inverse l = l.inverse
has_mark mark.Strikethrough l = l.strikethrough

-- the same but for a mark
abbrev pub look_without : Mark → Look → Look
look_without mark.Bold l = record l { bold = false }
look_without mark.Faint l = record l { faint = false }
look_without mark.Italic l = record l { italic = false }
look_without mark.Underlined l = record l { underline = underline.None }
look_without mark.Inverse l = record l { inverse = false }
look_without mark.Strikethrough l = record l { strikethrough = false }

-- a mark holds, and nothing else
abbrev pub is_marked : Mark → Look → Bool
is_marked m l = has_mark m l && is_plain (look_without m l)

-- a look is of this kind: it needs no span, has nothing but a colour by its name or but a mark, or
-- needs a span
abbrev pub is_of_kind : Kind → Look → Bool
is_of_kind kind.Plain l = is_plain l
is_of_kind kind.Colored l = is_colored l
is_of_kind (kind.Marked m) l = is_marked m l
is_of_kind kind.Other l = not (is_plain l)
