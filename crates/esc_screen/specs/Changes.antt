-- The changes of cells, other than printing.
use Rattle.std.specs.Prelude.{ℕ, ◌+◌, ◌==◌, nat_lt, Bool, true, false, ◌||◌, if◌then◌else◌, map}
use Rattle.esc_screen.specs.Areas.{area_drawn, area_erased}
use Rattle.esc_screen.specs.Cells.{deleted_cells, drawn_cell, erased_cells, filled_cells, inserted_cells, shifted_cells}
use Rattle.esc_screen.specs.Grids.{Grid, Size, in_row, in_rows, line_fed, line_fed_back, grid_at, next_line, rows_down, rows_erased, rows_up, settled_grid, with_margins, with_rows}
use Rattle.esc_screen.specs.Motions.{grid_by_motion}
use Rattle.esc_screen.specs.declared.change.Change.{Change}
use Rattle.esc_screen.specs.declared.change.Change.TheVariants as change
use Rattle.esc_screen.specs.declared.motion.Motion.TheVariants as motion

-- changes of the row of the cursor: no wrap is pending after them
abbrev pub cells_erased : ℕ → ℕ → Grid → Grid
cells_erased m n g = in_row (erased_cells g.cursor.erased m n) (settled_grid g)

abbrev pub cells_deleted : Size → ℕ → Grid → Grid
cells_deleted s n g = in_row (deleted_cells g.cursor.erased n g.cursor.column s.columns)
    (settled_grid g)

abbrev pub cells_inserted : Size → ℕ → Grid → Grid
cells_inserted s n g = in_row (inserted_cells g.cursor.erased n g.cursor.column s.columns)
    (settled_grid g)

-- whether the cursor is within the margins
abbrev pub is_within : Grid → Bool
is_within g = if nat_lt g.cursor.row g.top then false else nat_lt g.cursor.row g.bottom

-- rows from that of the cursor on move within the margins, where it is within them
abbrev pub rows_deleted : ℕ → Grid → Grid
rows_deleted n g = if is_within g
    then rows_up n g.cursor.row g.bottom (grid_at g.cursor.row 0 g)
    else g

abbrev pub rows_inserted : ℕ → Grid → Grid
rows_inserted n g = if is_within g
    then rows_down n g.cursor.row g.bottom (grid_at g.cursor.row 0 g)
    else g

-- the rows within the margins with so many columns more from one on, or fewer
abbrev pub columns_moved : Size → Bool → ℕ → ℕ → Grid → Grid
columns_moved s more n c g =
    in_rows g.top g.bottom (map (shifted_cells more g.cursor.erased n c s.columns)) g

-- where the cursor is within the margins
abbrev pub columns_within : Size → Bool → ℕ → ℕ → Grid → Grid
columns_within s more n c g = if is_within g then columns_moved s more n c g else g

-- a column back: in the first one, a blank one comes in there
abbrev pub indexed_back : Size → Grid → Grid
indexed_back s g = if g.cursor.column == 0
    then columns_within s true 1 0 g
    else grid_by_motion s g (motion.Left 1)

-- a column on: in the last one, the first one goes
abbrev pub indexed_on : Size → Grid → Grid
indexed_on s g = if g.cursor.column + 1 == s.columns
    then columns_within s false 1 0 g
    else grid_by_motion s g (motion.Right 1)

-- a picture of the letter E
abbrev pub alignment_grid : Size → Grid → Grid
alignment_grid s g = grid_at 0 0
    (with_margins 0 s.rows (with_rows (map (filled_cells (drawn_cell 0 0x45)) g.rows) g))

-- to the next row, and to its first column where a line feed returns
abbrev pub next_row : Size → Bool → Grid → Grid
next_row s returns g = if returns then next_line s g else line_fed s g

abbrev pub grid_by_change : Size → Grid → Change → Grid
grid_by_change s g change.Index = line_fed s g
grid_by_change s g change.ReverseIndex = line_fed_back g
grid_by_change s g change.LineFeed = next_row s (s.returns || g.modes.new_line) g
grid_by_change s g change.FormFeed = next_row s g.modes.new_line g
grid_by_change s g change.NextLine = next_line s g
grid_by_change s g change.EraseRight = cells_erased g.cursor.column s.columns g
grid_by_change s g change.EraseLeft = cells_erased 0 (g.cursor.column + 1) g
grid_by_change s g change.EraseRow = rows_erased g.cursor.row (g.cursor.row + 1) (settled_grid g)
grid_by_change s g change.EraseBelow =
    rows_erased (g.cursor.row + 1) s.rows (cells_erased g.cursor.column s.columns g)
grid_by_change s g change.EraseAbove =
    rows_erased 0 g.cursor.row (cells_erased 0 (g.cursor.column + 1) g)
grid_by_change s g change.EraseAll = rows_erased 0 s.rows (settled_grid g)
grid_by_change s g (change.EraseCells n) =
    cells_erased g.cursor.column (g.cursor.column + n) g
grid_by_change s g (change.InsertCells n) = cells_inserted s n g
grid_by_change s g (change.DeleteCells n) = cells_deleted s n g
grid_by_change s g (change.InsertRows n) = rows_inserted n g
grid_by_change s g (change.DeleteRows n) = rows_deleted n g
grid_by_change s g (change.ScrollUp n) = rows_up n g.top g.bottom g
grid_by_change s g (change.ScrollDown n) = rows_down n g.top g.bottom g
grid_by_change s g (change.ScrollLeft n) = columns_within s false n 0 g
grid_by_change s g (change.ScrollRight n) = columns_within s true n 0 g
grid_by_change s g (change.InsertColumns n) = columns_within s true n g.cursor.column g
grid_by_change s g (change.DeleteColumns n) = columns_within s false n g.cursor.column g
grid_by_change s g change.BackIndex = indexed_back s g
grid_by_change s g change.ForwardIndex = indexed_on s g
grid_by_change s g (change.EraseArea r) = area_erased s r g
grid_by_change s g (change.FillArea c r) = area_drawn s c r g
grid_by_change s g change.Align = alignment_grid s g
