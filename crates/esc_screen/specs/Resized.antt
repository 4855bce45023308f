-- The grid of a screen of another size.
use Rattle.std.specs.Prelude.{ℕ, ◌+◌, ◌-◌, ◌==◌, ◌≡◌, ◌<◌, min, Bool, false, ◌&&◌, if◌then◌else◌, List, ◌++◌, length, take, drop, map, replicate}
use Rattle.esc_screen.specs.Cells.{blank_row, cut_row}
use Rattle.esc_screen.specs.Cursors.{eighths}
use Rattle.esc_screen.specs.Grids.{Grid, Size, row_of_cursor}
use Rattle.esc_screen.specs.Halves.{HasWholeRows}
use Rattle.esc_screen.specs.Screens.{grid_of, size_of}
use Rattle.esc_screen.specs.Sound.{IsSound}
use Rattle.esc_screen.specs.declared.cell.Cell.{Cell}
use Rattle.esc_screen.specs.declared.cursor.Cursor.{Cursor}
use Rattle.esc_screen.specs.declared.screen.Screen.{Screen}

-- ---- parts

-- a row of so many columns: it is cut, or blank cells come at the end
abbrev pub resized_row : ℕ → List Cell → List Cell
resized_row n xs = take n (cut_row n xs) ++ blank_row 0 (n - length xs)

-- rows with so many columns each
abbrev pub resized_each : ℕ → List (List Cell) → List (List Cell)
resized_each n rs = map (resized_row n) rs

-- so many rows of so many columns: the first ones, and blank ones after them
abbrev pub resized_rows : ℕ → ℕ → List (List Cell) → List (List Cell)
resized_rows m n rs = resized_each n (take m rs) ++ replicate (m - length rs) (blank_row 0 n)

-- the tab stops of so many columns: every eighth column is one of those that are new
abbrev pub resized_tabs : ℕ → List Bool → List Bool
resized_tabs n bs = take n bs ++ eighths (length bs) (replicate (n - length bs) false)

-- a cursor within so many rows and columns: in the last one, if it is past that; a wrap that is
-- pending stays so
abbrev pub cursor_within : ℕ → ℕ → Cursor → Cursor
cursor_within m n c = record c {
  row = min c.row (m - 1);
  column = min c.column (n - 1);
}

-- ---- grids

-- how many rows leave at the top of a screen that gets so many: they leave room for the row of the
-- cursor
abbrev pub leaving_rows : ℕ → Grid → ℕ
leaving_rows m g = g.cursor.row + 1 - m

-- the rows that are left for a screen of this size, where so many leave at the top
abbrev pub rows_left : Size → ℕ → List (List Cell) → List (List Cell)
rows_left s k rs = resized_rows s.rows s.columns (drop k rs)

-- a grid of this size with these rows, those of the screen that is not seen, and tab stops: it has
-- no margins, and rows are counted from the first one
abbrev pub refitted_grid :
    Size → List (List Cell) → List (List Cell) → List Bool → Grid → Grid
refitted_grid s rs os ts g = record g {
  rows = rs;
  other = os;
  cursor = record (cursor_within s.rows s.columns g.cursor) { origin = false };
  saved = cursor_within s.rows s.columns g.saved;
  other_saved = cursor_within s.rows s.columns g.other_saved;
  top = 0;
  bottom = s.rows;
  tabs = ts;
}

abbrev pub fitted_grid : Size → Grid → Grid
fitted_grid s g = refitted_grid s
    (rows_left s (leaving_rows s.rows g) g.rows)
    (rows_left s (leaving_rows s.rows g) g.other)
    (resized_tabs s.columns g.tabs) g

abbrev pub is_same_size : Size → Size → Bool
is_same_size s t = s.rows == t.rows && s.columns == t.columns

-- the grid after a change from one size to another: the same one changes nothing
abbrev pub resized_grid : Size → Size → Grid → Grid
resized_grid s t g = if is_same_size s t then g else fitted_grid t g

-- ---- screens

-- a size with so many rows and columns
abbrev pub size_with : ℕ → ℕ → Size → Size
size_with m n s = record s {
  rows = m;
  columns = n;
}

-- a screen that got so many rows and columns
pub record Resizes {A : Type 0} (p : Screen A) (m n : ℕ) (q : Screen A) : Type 0 where
  pub grid : grid_of q ≡ resized_grid (size_of p) (size_with m n (size_of p)) (grid_of p)
  pub size : size_of q ≡ size_with m n (size_of p)

-- ---- laws

-- a grid that a screen can have is one that a screen of the new size can have
abbrev pub ResizesSound : Type 0
ResizesSound = (s t : Size) (g : Grid) → 0 < t.rows → 0 < t.columns → IsSound s g
    → IsSound t (resized_grid s t g)

-- no half of a wide character stands alone then
abbrev pub ResizesWhole : Type 0
ResizesWhole = (s t : Size) (g : Grid) → HasWholeRows g → HasWholeRows (resized_grid s t g)

-- the cursor is in the row that it was in
abbrev pub KeepsLine : Type 0
KeepsLine = (s t : Size) (g : Grid) → 0 < t.rows → IsSound s g
    → row_of_cursor (resized_grid s t g) ≡ resized_row t.columns (row_of_cursor g)
