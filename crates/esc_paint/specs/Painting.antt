-- How a screen is painted: row by row, and in a row cell by cell.
use Rattle.std.specs.Prelude.{ℕ, zero, suc, ◌+◌, ◌-◌, ◌==◌, Bool, true, false, not, ◌&&◌, if◌then◌else◌, List, [], ◌∷◌, ◌++◌, length, get_or, Option, None, Some}
use Rattle.esc_sgr.specs.Sgr.{same_look}
use Rattle.esc_style.specs.Looks.{plain_look}
use Rattle.esc_style.specs.declared.look.Look.{Look}
use Rattle.esc_screen.specs.Cells.{blank}
use Rattle.esc_screen.specs.Grids.{Grid, Size, row_of_cursor}
use Rattle.esc_screen.specs.declared.cell.Cell.{Cell}
use Rattle.esc_screen.specs.declared.content.Content.{Content}
use Rattle.esc_screen.specs.declared.content.Content.TheVariants as content
use Rattle.esc_screen.specs.declared.marks.Marks.{Marks}
use Rattle.esc_terminal.specs.Looks.{erased_look}
use Rattle.esc_paint.specs.declared.pen.Pen.{Pen}
use Rattle.esc_paint.specs.Parts.{Part, character, erase_all, erase_right, look, parts_text, place, soft_reset}

-- at the beginning of a row
abbrev pub first_pen : Pen
first_pen = record {
  here = false;
  look = plain_look;
  back = plain_look;
}

-- ---- cells

-- the cursor goes to a row and a column, if it is not there
abbrev pub place_change : Bool → ℕ → ℕ → List Part
place_change here r n = if here then [] else place r n ∷ []

-- the look of characters that come becomes another
abbrev pub look_change : Look → Look → List Part
look_change a b = if same_look a b then [] else look b ∷ []

abbrev pub mark_parts : Option ℕ → List Part
mark_parts None = []
mark_parts (Some c) = character c ∷ []

-- if there are three marks or more, two are known: the first stands for the others
abbrev pub marks_parts : Marks → List Part
marks_parts m = mark_parts m.first
    ++ (mark_parts m.second ++ (if m.others then mark_parts m.first else []))

-- a character in a row and a column, with its marks and its look
abbrev pub drawn_parts : ℕ → ℕ → Pen → ℕ → Marks → Look → List Part
drawn_parts r n p c m l =
    place_change p.here r n ++ (look_change p.look l ++ (character c ∷ marks_parts m))

abbrev pub pen_drawn : Look → Pen → Pen
pen_drawn l p = record p { here = true; look = l }

-- a blank cell: the rest of the row is erased, if it looks otherwise
abbrev pub blank_parts : ℕ → ℕ → Pen → Look → List Part
blank_parts r n p b = if same_look p.back b then []
    else place_change p.here r n ++ (look_change p.look b ++ (erase_right ∷ []))

abbrev pub pen_blank : Look → Pen → Pen
pen_blank b p = if same_look p.back b then record p { here = false }
    else record {
      here = false;
      look = b;
      back = b;
    }

-- the content of a cell; the second column of a character came with the first
abbrev pub content_parts : ℕ → ℕ → Pen → Look → Content → List Part
content_parts r n p l content.Blank = blank_parts r n p (erased_look l)
content_parts r n p l (content.Narrow c m) = drawn_parts r n p c m l
content_parts r n p l (content.Wide c m) = drawn_parts r n p c m l
content_parts r n p l content.Rest = []

abbrev pub pen_by : Pen → Look → Content → Pen
pen_by p l content.Blank = pen_blank (erased_look l) p
pen_by p l (content.Narrow c m) = pen_drawn l p
pen_by p l (content.Wide c m) = pen_drawn l p
pen_by p l content.Rest = p

-- ---- rows

-- cells from a column on, each with the look of its number; then characters look plain
abbrev pub cells_parts : (ℕ → Look) → ℕ → ℕ → Pen → List Cell → List Part
cells_parts f r n p [] = look_change p.look plain_look
cells_parts f r n p (x ∷ xs) = content_parts r n p (f x.look) x.content
    ++ cells_parts f r (n + 1) (pen_by p (f x.look) x.content) xs

-- in a row that is blank
abbrev pub row_parts : (ℕ → Look) → ℕ → List Cell → List Part
row_parts f r xs = cells_parts f r 0 first_pen xs

-- so many rows from this one on
abbrev pub rows_parts : (ℕ → Look) → List (List Cell) → ℕ → ℕ → List Part
rows_parts f xss r zero = []
rows_parts f xss r (suc n) = row_parts f r (get_or xss r []) ++ rows_parts f xss (r + 1) n

-- a row, whatever is there
abbrev pub row_again : (ℕ → Look) → ℕ → List Cell → List Part
row_again f r xs = place r 0 ∷ erase_right ∷ row_parts f r xs

-- ---- the cursor

abbrev pub is_blank_content : Content → Bool
is_blank_content content.Blank = true
is_blank_content _ = false

-- whether a character stands in the last column of its row
abbrev pub ends_drawn : List Cell → Bool
ends_drawn xs = not (is_blank_content (get_or xs (length xs - 1) (blank 0)).content)

-- a wrap that is pending after a character in the last column
abbrev pub is_waiting : Size → Grid → Bool
is_waiting s g = g.cursor.pending && (g.cursor.column + 1 == s.columns)
    && ends_drawn (row_of_cursor g)

-- the cursor goes to its place; if a wrap is pending, the row is painted again
abbrev pub cursor_parts : (ℕ → Look) → Size → Grid → List Part
cursor_parts f s g = if is_waiting s g then row_again f g.cursor.row (row_of_cursor g)
    else place g.cursor.row g.cursor.column ∷ []

-- ---- a screen

abbrev pub paint_parts : (ℕ → Look) → Size → Grid → List Part
paint_parts f s g =
    soft_reset ∷ erase_all ∷ (rows_parts f g.rows 0 s.rows ++ cursor_parts f s g)

-- the text that paints a grid of this size, if the numbers of cells stand for these looks
abbrev pub painting_text : (ℕ → Look) → Size → Grid → List ℕ
painting_text f s g = parts_text (paint_parts f s g)
