-- The places that the cursor moves to.
use Rattle.std.specs.Prelude.{ℕ, ◌+◌, ◌-◌, nat_lt, min, if◌then◌else◌}
use Rattle.esc_screen.specs.Lists.{times}
use Rattle.esc_screen.specs.Cursors.{stop_after, stop_before}
use Rattle.esc_screen.specs.Grids.{Grid, Size, grid_at, with_cursor}
use Rattle.esc_screen.specs.declared.motion.Motion.{Motion}
use Rattle.esc_screen.specs.declared.motion.Motion.TheVariants as motion

-- up and down: not past a margin that the cursor is within, nor past the screen
abbrev pub row_up : ℕ → Grid → ℕ
row_up n g = if nat_lt g.cursor.row g.top then g.cursor.row - n
    else g.top + ((g.cursor.row - g.top) - n)

abbrev pub row_down : Size → ℕ → Grid → ℕ
row_down s n g = if nat_lt g.cursor.row g.bottom then min (g.cursor.row + n) (g.bottom - 1)
    else min (g.cursor.row + n) (s.rows - 1)

-- a row by its number: in origin mode counted from the top margin, and not past the bottom one
abbrev pub row_by : Size → ℕ → Grid → ℕ
row_by s n g = if g.cursor.origin then min (g.top + n) (g.bottom - 1) else min n (s.rows - 1)

-- a column by its number
abbrev pub column_by : Size → ℕ → ℕ
column_by s n = min n (s.columns - 1)

-- at a row and a column by their numbers
abbrev pub positioned_grid : Size → ℕ → ℕ → Grid → Grid
positioned_grid s r n g = grid_at (row_by s r g) (column_by s n) g

-- so many tab stops on, or back
abbrev pub tab_after : Size → ℕ → Grid → ℕ
tab_after s n g = times (min n s.columns) (stop_after s.columns g.tabs) g.cursor.column

abbrev pub tab_before : Size → ℕ → Grid → ℕ
tab_before s n g = times (min n s.columns) (stop_before g.tabs) g.cursor.column

-- a wrap that is pending stays so
abbrev pub grid_at_tab : Size → ℕ → Grid → Grid
grid_at_tab s n g = with_cursor (record (g.cursor) { column = tab_after s n g }) g

abbrev pub grid_by_motion : Size → Grid → Motion → Grid
grid_by_motion s g motion.RowStart = grid_at g.cursor.row 0 g
grid_by_motion s g (motion.Left n) = grid_at g.cursor.row (g.cursor.column - n) g
grid_by_motion s g (motion.Right n) = grid_at g.cursor.row (column_by s (g.cursor.column + n)) g
grid_by_motion s g (motion.Up n) = grid_at (row_up n g) g.cursor.column g
grid_by_motion s g (motion.Down n) = grid_at (row_down s n g) g.cursor.column g
grid_by_motion s g (motion.UpToStart n) = grid_at (row_up n g) 0 g
grid_by_motion s g (motion.DownToStart n) = grid_at (row_down s n g) 0 g
grid_by_motion s g (motion.Column n) = grid_at g.cursor.row (column_by s n) g
grid_by_motion s g (motion.Row n) = grid_at (row_by s n g) g.cursor.column g
grid_by_motion s g (motion.Position r n) = positioned_grid s r n g
grid_by_motion s g (motion.Tab n) = grid_at_tab s n g
grid_by_motion s g (motion.BackTab n) = grid_at g.cursor.row (tab_before s n g) g
