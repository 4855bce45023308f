-- How a terminal that shows one screen is led to another: only what differs is painted.
use Rattle.std.specs.Prelude.{ℕ, zero, suc, ◌+◌, ◌==◌, nat_lt, Bool, true, false, not, ◌&&◌, ◌||◌, if◌then◌else◌, List, [], ◌∷◌, ◌++◌, length, drop, get_or, Option, None, Some}
use Rattle.std.specs.Bool.{beq}
use Rattle.esc_sgr.specs.Sgr.{same_look}
use Rattle.esc_style.specs.declared.look.Look.{Look}
use Rattle.esc_screen.specs.Cells.{is_rest_content}
use Rattle.esc_screen.specs.Grids.{Grid, Size}
use Rattle.esc_screen.specs.declared.cell.Cell.{Cell}
use Rattle.esc_screen.specs.declared.content.Content.{Content}
use Rattle.esc_screen.specs.declared.content.Content.TheVariants as content
use Rattle.esc_screen.specs.declared.marks.Marks.{Marks}
use Rattle.esc_terminal.specs.Looks.{erased_look}
use Rattle.esc_paint.specs.declared.pen.Pen.{Pen}
use Rattle.esc_paint.specs.Parts.{Part, erase_right, parts_text, place, soft_reset}
use Rattle.esc_paint.specs.Painting.{cells_parts, cursor_parts, first_pen, is_blank_content, is_waiting, painting_text}

-- ---- cells

abbrev pub same_mark : Option ℕ → Option ℕ → Bool
same_mark None None = true
same_mark (Some c) (Some d) = c == d
same_mark _ _ = false

abbrev pub same_marks : Marks → Marks → Bool
same_marks m n = same_mark m.first n.first && same_mark m.second n.second
    && beq m.others n.others

abbrev pub same_narrow : ℕ → Marks → Content → Bool
same_narrow c m (content.Narrow d n) = c == d && same_marks m n
same_narrow c m _ = false

abbrev pub same_wide : ℕ → Marks → Content → Bool
same_wide c m (content.Wide d n) = c == d && same_marks m n
same_wide c m _ = false

abbrev pub same_content : Content → Content → Bool
same_content content.Blank b = is_blank_content b
same_content (content.Narrow c m) b = same_narrow c m b
same_content (content.Wide c m) b = same_wide c m b
same_content content.Rest b = is_rest_content b

-- the look of a cell as it is seen: a blank one shows its background
abbrev pub seen : Look → Content → Look
seen l content.Blank = erased_look l
seen l _ = l

-- whether two cells are the same, each with the look of its number; the second column of a
-- character looks as the first one does
abbrev pub same_cell : (ℕ → Look) → (ℕ → Look) → Cell → Cell → Bool
same_cell f k x y = same_content x.content y.content
    && (is_rest_content y.content
    || same_look (seen (f x.look) x.content) (seen (k y.look) y.content))

-- how many cells of two rows are the same, from the first one on
abbrev pub same_cells : (ℕ → Look) → (ℕ → Look) → List Cell → List Cell → ℕ
same_cells f k (x ∷ xs) (y ∷ ys) = if same_cell f k x y then suc (same_cells f k xs ys) else 0
same_cells f k _ _ = 0

-- ---- rows

-- whether a cell of the second row is not the same
abbrev pub is_other : (ℕ → Look) → (ℕ → Look) → List Cell → List Cell → Bool
is_other f k xs ys = nat_lt (same_cells f k xs ys) (length ys)

-- the cursor is at the next cell, and the rest of the row is blank
abbrev pub here_pen : Pen
here_pen = record first_pen { here = true }

-- the cells of a row from a column on, whatever is there
abbrev pub rest_parts : (ℕ → Look) → ℕ → ℕ → List Cell → List Part
rest_parts f r n xs = place r n ∷ erase_right ∷ cells_parts f r n here_pen (drop n xs)

-- a row where another one is, from the first cell on that is not the same
abbrev pub row_changes : (ℕ → Look) → (ℕ → Look) → ℕ → List Cell → List Cell → List Part
row_changes f k r xs ys = if is_other f k xs ys then rest_parts k r (same_cells f k xs ys) ys
    else []

-- so many rows from this one on
abbrev pub rows_changes : (ℕ → Look) → (ℕ → Look) → List (List Cell) → List (List Cell) → ℕ → ℕ
    → List Part
rows_changes f k xss yss r zero = []
rows_changes f k xss yss r (suc n) = row_changes f k r (get_or xss r []) (get_or yss r [])
    ++ rows_changes f k xss yss (r + 1) n

-- whether so many rows from this one on are the same
abbrev pub same_rows : (ℕ → Look) → (ℕ → Look) → List (List Cell) → List (List Cell) → ℕ → ℕ
    → Bool
same_rows f k xss yss r zero = true
same_rows f k xss yss r (suc n) = not (is_other f k (get_or xss r []) (get_or yss r []))
    && same_rows f k xss yss (r + 1) n

-- ---- a screen

-- the cursor is in the same place, and a wrap is pending in both grids or in none
abbrev pub same_cursor : Size → Size → Grid → Grid → Bool
same_cursor q s g h = g.cursor.row == h.cursor.row && g.cursor.column == h.cursor.column
    && beq (is_waiting q g) (is_waiting s h)

-- a grid of the first size and one of the second
abbrev pub same_screen : (ℕ → Look) → (ℕ → Look) → Size → Size → Grid → Grid → Bool
same_screen f k q s g h = same_cursor q s g h && same_rows f k g.rows h.rows 0 s.rows

-- nothing, if they are the same
abbrev pub change_parts : (ℕ → Look) → (ℕ → Look) → Size → Size → Grid → Grid → List Part
change_parts f k q s g h = if same_screen f k q s g h then []
    else soft_reset ∷ (rows_changes f k g.rows h.rows 0 s.rows ++ cursor_parts k s h)

abbrev pub same_size : Size → Size → Bool
same_size q s = q.rows == s.rows && q.columns == s.columns

-- The text that leads a terminal which shows a grid of one size to another grid, if the numbers of
-- their cells stand for these looks: if the other one has another size, the whole is painted.
abbrev pub difference : (ℕ → Look) → (ℕ → Look) → Size → Size → Grid → Grid → List ℕ
difference f k q s g h = if same_size q s then parts_text (change_parts f k q s g h)
    else painting_text k s h

-- ---- screens, one after another

-- The text that leads from a grid to the first of others of its size, and on from each to the next;
-- each comes with the looks of the numbers of its cells.
abbrev pub differences : (ℕ → Look) → Size → Grid → List ((ℕ → Look) × Grid) → List ℕ
differences f s g [] = []
differences f s g (h ∷ hs) = difference f h.0 s s g h.1 ++ differences h.0 s h.1 hs

abbrev pub last_grid : Grid → List ((ℕ → Look) × Grid) → Grid
last_grid g [] = g
last_grid g (h ∷ hs) = last_grid h.1 hs
