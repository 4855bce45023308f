-- The changes of rectangles.
use Rattle.std.specs.Prelude.{ℕ, ◌+◌, nat_lt, Bool, ◌&&◌, if◌then◌else◌, map}
use Rattle.esc_screen.specs.Cells.{blank, drawn_cell, filled_part}
use Rattle.esc_screen.specs.Cursors.{drawn_character}
use Rattle.esc_screen.specs.Grids.{Grid, Size, in_rows}
use Rattle.esc_screen.specs.Motions.{column_by, row_by}
use Rattle.esc_screen.specs.declared.area.Area.{Area}
use Rattle.esc_screen.specs.declared.cell.Cell.{Cell}

-- the row after the last one, and the column after the last one
abbrev pub end_row : Size → Area → Grid → ℕ
end_row s r g = row_by s r.bottom g + 1

abbrev pub end_column : Size → Area → ℕ
end_column s r = column_by s r.right + 1

-- whether it has a row and a column
abbrev pub has_cells : Size → Area → Grid → Bool
has_cells s r g = nat_lt (row_by s r.top g) (end_row s r g)
    && nat_lt (column_by s r.left) (end_column s r)

-- all its cells are this one; the cursor stays, and a wrap that is pending stays so
abbrev pub area_filled : Size → Area → Cell → Grid → Grid
area_filled s r x g = if has_cells s r g
    then in_rows (row_by s r.top g) (end_row s r g)
    (map (filled_part x (column_by s r.left) (end_column s r))) g
    else g

-- blank, as cells are that are erased
abbrev pub area_erased : Size → Area → Grid → Grid
area_erased s r g = area_filled s r (blank g.cursor.erased) g

-- or a character of one column, as it is shown
abbrev pub area_drawn : Size → ℕ → Area → Grid → Grid
area_drawn s c r g = area_filled s r (drawn_cell g.cursor.look (drawn_character g.cursor c)) g
