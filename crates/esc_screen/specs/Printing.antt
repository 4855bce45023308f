-- Characters that are printed.
use Rattle.std.specs.Prelude.{ℕ, ◌+◌, ◌-◌, nat_lt, min, Bool, ◌&&◌, ◌||◌, not, if◌then◌else◌}
use Rattle.esc_screen.specs.Lists.{times}
use Rattle.esc_screen.specs.Cells.{content_at, inserted_cells, joined_at, marked_cells, cells_with, put_wide}
use Rattle.esc_screen.specs.Cursors.{draws, landed_cursor, drawn_character}
use Rattle.esc_screen.specs.Grids.{Grid, Size, in_row, next_line, row_of_cursor, settled_grid, with_cursor}
use Rattle.esc_screen.specs.declared.content.Content.{Content}
use Rattle.esc_screen.specs.declared.content.Content.TheVariants as content

-- past a character of so many columns
abbrev pub grid_past : Size → ℕ → Grid → Grid
grid_past s n g = with_cursor (landed_cursor s.columns g.modes.wraps (g.cursor.column + n) g.cursor)
    g

-- the row of the cursor, which is in its last column, goes on in the next one
abbrev pub row_gone_on : Grid → Grid
row_gone_on g = in_row (joined_at g.cursor.column) g

-- to the next row, where lines wrap
abbrev pub wrapped_past : Size → Grid → Grid
wrapped_past s g = if g.modes.wraps then next_line s (row_gone_on g) else settled_grid g

-- where a character of one column comes: the wrap that is pending is done
abbrev pub wrapped_grid : Size → Grid → Grid
wrapped_grid s g = if g.cursor.pending then wrapped_past s g else g

-- where one of two columns comes
abbrev pub wrapped_wide : Size → Grid → Grid
wrapped_wide s g = if nat_lt (g.cursor.column + 1) s.columns then wrapped_grid s g
    else next_line s (row_gone_on g)

-- in the mode IRM, room for a character of so many columns
abbrev pub grid_with_room : Size → ℕ → Grid → Grid
grid_with_room s n g = if g.modes.inserts
    then in_row (inserted_cells g.cursor.erased n g.cursor.column s.columns) g
    else g

-- with a character of one column at the cursor, which is past it then
abbrev pub grid_with_character : Size → ℕ → Grid → Grid
grid_with_character s c g = grid_past s 1 (in_row (cells_with g.cursor.column g.cursor.look c) g)

abbrev pub printed_wide : Size → ℕ → Grid → Grid
printed_wide s c g = grid_past s 2 (in_row (put_wide g.cursor.column g.cursor.look c) g)

-- with a character of one column, where no wrap is pending
abbrev pub narrow_put : Size → ℕ → Grid → Grid
narrow_put s c g = grid_with_character s (drawn_character g.cursor c) (grid_with_room s 1 g)

abbrev pub narrow_printed : Size → ℕ → Grid → Grid
narrow_printed s c g = narrow_put s c (wrapped_grid s g)

-- whether one of two columns has room: on a line, or on the next
abbrev pub has_room : Size → Grid → Bool
has_room s g = nat_lt 1 s.columns && (g.modes.wraps || nat_lt (g.cursor.column + 1) s.columns)

-- with a character of two columns
abbrev pub wide_put : Size → ℕ → Grid → Grid
wide_put s c g = printed_wide s c (grid_with_room s 2 (wrapped_wide s g))

abbrev pub wide_printed : Size → ℕ → Grid → Grid
wide_printed s c g = if has_room s g then wide_put s c g else g

-- ---- the character before the cursor

-- whether there is a column before the cursor, and which
abbrev pub has_before : Grid → Bool
has_before g = g.cursor.pending || nat_lt 0 g.cursor.column

abbrev pub column_before : Grid → ℕ
column_before g = if g.cursor.pending then g.cursor.column else g.cursor.column - 1

-- with a mark on it
abbrev pub mark_printed : ℕ → Grid → Grid
mark_printed c g = if has_before g then in_row (marked_cells (column_before g) c) g else g

-- the content before the cursor
abbrev pub before : Grid → Content
before g = if has_before g then content_at (column_before g) (row_of_cursor g) else content.Blank

-- printed so many times
abbrev pub repeated_content : Size → ℕ → Content → Grid → Grid
repeated_content s n (content.Narrow c m) g = times n (narrow_printed s c) g
repeated_content s n (content.Wide c m) g = times n (wide_printed s c) g
repeated_content s n x g = g

abbrev pub grid_with_repeats : Size → ℕ → Grid → Grid
grid_with_repeats s n g = repeated_content s (min n s.columns) (before g) g

-- whether a character is shown as it is, and nothing makes room for it
abbrev pub is_direct : Grid → Bool
is_direct g = not g.modes.inserts && not (draws g.cursor)
