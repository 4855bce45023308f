-- The grid of a screen, and the parts of it.
use Rattle.std.specs.Prelude.{ℕ, ◌+◌, ◌-◌, ◌==◌, min, Bool, false, if◌then◌else◌, List, [], map, replicate, set, get_or}
use Rattle.esc_screen.specs.Lists.{in_part, moved_down, moved_up}
use Rattle.esc_screen.specs.Cells.{blank_row, cleared_cells}
use Rattle.esc_screen.specs.Cursors.{at, eighths, first_modes, home}
use Rattle.esc_screen.specs.declared.cell.Cell.{Cell}
use Rattle.esc_screen.specs.declared.cursor.Cursor.{Cursor}
use Rattle.esc_screen.specs.declared.modes.Modes.{Modes}

-- the properties that no step changes: the number of rows, that of columns, and whether a line feed
-- returns to the first column, whatever the modes are
pub record Size : Type 0 where
  pub rows : ℕ
  pub columns : ℕ
  pub returns : Bool

-- the rows, each of so many cells, and those of the screen that is not seen; whether that which is
-- seen is the alternate one; the cursor, and the ones that are remembered for the two screens; the
-- margins: the first row that scrolls, and the row after the last that does; the modes; and for
-- each column whether it is a tab stop
pub record Grid : Type 0 where
  pub rows : List (List Cell)
  pub other : List (List Cell)
  pub alternate : Bool
  pub cursor : Cursor
  pub saved : Cursor
  pub other_saved : Cursor
  pub top : ℕ
  pub bottom : ℕ
  pub modes : Modes
  pub tabs : List Bool

abbrev pub blank_rows : Size → ℕ → List (List Cell)
blank_rows s l = replicate s.rows (blank_row l s.columns)

-- at first: blank, with a tab stop in every eighth column
abbrev pub first_grid : Size → Grid
first_grid s = record {
  rows = blank_rows s 0;
  other = blank_rows s 0;
  alternate = false;
  cursor = home;
  saved = home;
  other_saved = home;
  top = 0;
  bottom = s.rows;
  modes = first_modes;
  tabs = eighths 0 (replicate s.columns false);
}

-- ---- parts

abbrev pub with_cursor : Cursor → Grid → Grid
with_cursor c g = record g { cursor = c }

abbrev pub with_rows : List (List Cell) → Grid → Grid
with_rows rs g = record g { rows = rs }

-- with other margins
abbrev pub with_margins : ℕ → ℕ → Grid → Grid
with_margins m n g = record g {
  top = m;
  bottom = n;
}

-- with the cursor at a row and a column
abbrev pub grid_at : ℕ → ℕ → Grid → Grid
grid_at r n g = with_cursor (at r n g.cursor) g

-- with no wrap that is pending
abbrev pub settled_grid : Grid → Grid
settled_grid g = grid_at g.cursor.row g.cursor.column g

-- the row of the cursor
abbrev pub row_of_cursor : Grid → List Cell
row_of_cursor g = get_or g.rows g.cursor.row []

-- with that row changed so
abbrev pub in_row : (List Cell → List Cell) → Grid → Grid
in_row f g = with_rows (set g.rows g.cursor.row (f (row_of_cursor g))) g

-- with the rows from one to before another changed so
abbrev pub in_rows : ℕ → ℕ → (List (List Cell) → List (List Cell)) → Grid → Grid
in_rows m n f g = with_rows (in_part m n f g.rows) g

-- with rows that are blank, as cells are that are erased
abbrev pub rows_erased : ℕ → ℕ → Grid → Grid
rows_erased m n g = in_rows m n (map (cleared_cells g.cursor.erased)) g

-- with the rows from one to before another moved up by so many; or down
abbrev pub rows_up : ℕ → ℕ → ℕ → Grid → Grid
rows_up k m n g = in_rows m n (moved_up k (map (cleared_cells g.cursor.erased))) g

abbrev pub rows_down : ℕ → ℕ → ℕ → Grid → Grid
rows_down k m n g = in_rows m n (moved_down k (map (cleared_cells g.cursor.erased))) g

-- ---- to another line

-- a row down: where that is past the margin, the rows within the margins move up
abbrev pub line_fed : Size → Grid → Grid
line_fed s g = if g.cursor.row + 1 == g.bottom
    then rows_up 1 g.top g.bottom (settled_grid g)
    else grid_at (min (g.cursor.row + 1) (s.rows - 1)) g.cursor.column g

abbrev pub line_fed_back : Grid → Grid
line_fed_back g = if g.cursor.row == g.top
    then rows_down 1 g.top g.bottom (settled_grid g)
    else grid_at (g.cursor.row - 1) g.cursor.column g

-- to the first column of the next row
abbrev pub next_line : Size → Grid → Grid
next_line s g = grid_at (line_fed s g).cursor.row 0 (line_fed s g)
