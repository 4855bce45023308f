-- The cells of a screen, and its requests, for C.
use Rattle.std.specs.Prelude.{ℕ, ◌+◌, ◌*◌, Option, None, Some}
use Rattle.esc_calls.specs.declared.cell_row.CellRow.{CellRow}
use Rattle.esc_calls.specs.declared.request_row.RequestRow.{RequestRow}
use Rattle.esc_screen.specs.Cells.{no_marks}
use Rattle.esc_screen.specs.declared.cell.Cell.{Cell}
use Rattle.esc_screen.specs.declared.content.Content.{Content}
use Rattle.esc_screen.specs.declared.content.Content.TheVariants as content
use Rattle.esc_screen.specs.declared.marks.Marks.{Marks}
use Rattle.esc_sequences.specs.declared.underline.Underline.{Underline}
use Rattle.esc_sequences.specs.declared.underline.Underline.TheVariants as underline
use Rattle.esc_style.specs.declared.color.Color.{Color}
use Rattle.esc_style.specs.declared.color.Color.TheVariants as color
use Rattle.esc_terminal.specs.Links.{Known, known_look, link_number}
use Rattle.esc_terminal.specs.declared.request.Request.{Request}
use Rattle.esc_terminal.specs.declared.request.Request.TheVariants as request
use Rattle.typed_functions.specs.Numbers.{ansi_color_number}

-- the code point of the character, if there is one
abbrev pub character_of : Content → ℕ
character_of content.Blank = 0
character_of (content.Narrow c m) = c
character_of (content.Wide c m) = c
character_of content.Rest = 0

abbrev pub marks_of : Content → Marks
marks_of content.Blank = no_marks
marks_of (content.Narrow c m) = m
marks_of (content.Wide c m) = m
marks_of content.Rest = no_marks

abbrev pub mark_number : Option ℕ → ℕ
mark_number None = 0
mark_number (Some c) = c

-- how many columns it takes
abbrev pub width_of : Content → ℕ
width_of content.Blank = 1
width_of (content.Narrow c m) = 1
width_of (content.Wide c m) = 2
width_of content.Rest = 0

-- an entry of the palette, or red, green and blue
abbrev pub color_number : Color → ℕ
color_number color.Default = 0
color_number (color.Named c) = 0x1000000 + ansi_color_number c
color_number (color.Palette n) = 0x1000000 + n
color_number (color.Direct c) = 0x2000000 + c.0 * 0x10000 + c.1 * 0x100 + c.2

-- the kinds of SGR 4:0 to 4:5
abbrev pub underline_number : Underline → ℕ
underline_number underline.None = 0
underline_number underline.Single = 1
underline_number underline.Double = 2
underline_number underline.Curly = 3
underline_number underline.Dotted = 4
underline_number underline.Dashed = 5

-- the number of a link from 1 on, or 0 for none
abbrev pub link_count : Option ℕ → ℕ
link_count None = 0
link_count (Some n) = n + 1

-- a cell, with so much known of looks and links
abbrev pub cell_row : Known → Cell → CellRow
cell_row ks x = record {
  character = character_of x.content;
  first_mark = mark_number (marks_of x.content).first;
  second_mark = mark_number (marks_of x.content).second;
  foreground = color_number (known_look x.look ks).foreground;
  background = color_number (known_look x.look ks).background;
  underline_color = color_number (known_look x.look ks).underline_color;
  link = link_count (link_number x.look ks.linked);
  width = width_of x.content;
  underline = underline_number (known_look x.look ks).underline;
  bold = (known_look x.look ks).bold;
  faint = (known_look x.look ks).faint;
  italic = (known_look x.look ks).italic;
  blink = (known_look x.look ks).blink;
  inverse = (known_look x.look ks).inverse;
  concealed = (known_look x.look ks).concealed;
  strikethrough = (known_look x.look ks).strikethrough;
  overline = (known_look x.look ks).overline;
  more_marks = (marks_of x.content).others;
  joined = x.joined;
}

-- a request: a kind, and the mode that is asked for, if one is
abbrev pub mode_request : ℕ → ℕ → RequestRow
mode_request k n = record {
  kind = k;
  mode = n;
}

abbrev pub request_row : Request → RequestRow
request_row request.PrimaryAttributes = mode_request 1 0
request_row request.SecondaryAttributes = mode_request 2 0
request_row request.TertiaryAttributes = mode_request 3 0
request_row request.NameAndVersion = mode_request 4 0
request_row request.Status = mode_request 5 0
request_row request.CursorPosition = mode_request 6 0
request_row (request.ModeState n) = mode_request 7 n
request_row (request.PrivateModeState n) = mode_request 8 n
