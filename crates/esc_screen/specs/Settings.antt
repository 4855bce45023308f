-- The changes of the state.
use Rattle.std.specs.Prelude.{ℕ, ◌+◌, nat_lt, min, Bool, true, false, if◌then◌else◌, length, map, replicate, set}
use Rattle.esc_screen.specs.Cells.{cleared_cells}
use Rattle.esc_screen.specs.Cursors.{eighths, first_modes, home, softly_reset, softly_reset_modes, with_mode}
use Rattle.esc_screen.specs.Grids.{Grid, Size, grid_at, rows_erased, with_cursor, with_margins}
use Rattle.esc_screen.specs.Motions.{positioned_grid}
use Rattle.esc_screen.specs.declared.setting.Setting.{Setting}
use Rattle.esc_screen.specs.declared.setting.Setting.TheVariants as setting

-- a stop, or none, in the column of the cursor
abbrev pub tab_set : Bool → Grid → Grid
tab_set b g = record g { tabs = set g.tabs g.cursor.column b }

-- margins of one row or none are no margins
abbrev pub scrolling : Size → ℕ → ℕ → Grid → Grid
scrolling s m n g = if nat_lt (m + 1) (min n s.rows)
    then positioned_grid s 0 0 (with_margins m (min n s.rows) g)
    else g

abbrev pub with_origin : Size → Bool → Grid → Grid
with_origin s b g = positioned_grid s 0 0 (with_cursor (record (g.cursor) { origin = b }) g)

-- 80 or 132 columns: all is blank, with no margins, and the size stays
abbrev pub emptied_grid : Size → Grid → Grid
emptied_grid s g = grid_at 0 0 (with_margins 0 s.rows (rows_erased 0 s.rows g))

abbrev pub with_columns : Size → Grid → Grid
with_columns s g = if g.modes.columns then emptied_grid s g else g

abbrev pub saving : Grid → Grid
saving g = record g { saved = g.cursor }

abbrev pub restored_grid : Grid → Grid
restored_grid g = with_cursor g.saved g

-- the other screen is seen
abbrev pub exchanged_screens : Grid → Grid
exchanged_screens g = record g {
  rows = g.other;
  other = g.rows;
  alternate = if g.alternate then false else true;
  saved = g.other_saved;
  other_saved = g.saved;
}

abbrev pub to_alternate : Grid → Grid
to_alternate g = if g.alternate then g else exchanged_screens g

abbrev pub to_main : Grid → Grid
to_main g = if g.alternate then exchanged_screens g else g

-- the alternate screen is blank, where it is seen
abbrev pub alternate_cleared : Size → Grid → Grid
alternate_cleared s g = if g.alternate then rows_erased 0 s.rows g else g

abbrev pub softly_reset_grid : Size → Grid → Grid
softly_reset_grid s g = record g {
  cursor = softly_reset g.cursor;
  saved = home;
  top = 0;
  bottom = s.rows;
  modes = softly_reset_modes g.modes;
}

abbrev pub reset_grid : Size → Grid → Grid
reset_grid s g = record {
  rows = map (cleared_cells 0) g.rows;
  other = map (cleared_cells 0) g.other;
  alternate = false;
  cursor = home;
  saved = home;
  other_saved = home;
  top = 0;
  bottom = s.rows;
  modes = first_modes;
  tabs = eighths 0 g.tabs;
}

abbrev pub grid_by_setting : Size → Grid → Setting → Grid
grid_by_setting s g (setting.Select l e) = with_cursor (record (g.cursor) {
  look = l;
  erased = e;
}) g
grid_by_setting s g setting.SetTab = tab_set true g
grid_by_setting s g setting.ClearTab = tab_set false g
grid_by_setting s g setting.ClearTabs = record g { tabs = replicate (length g.tabs) false }
grid_by_setting s g (setting.Margins m n) = scrolling s m n g
grid_by_setting s g (setting.Mode m b) = record g { modes = with_mode m b g.modes }
grid_by_setting s g (setting.Origin b) = with_origin s b g
grid_by_setting s g setting.Columns = with_columns s g
grid_by_setting s g (setting.G0Draws b) = with_cursor (record (g.cursor) { g0_draws = b }) g
grid_by_setting s g (setting.G1Draws b) = with_cursor (record (g.cursor) { g1_draws = b }) g
grid_by_setting s g (setting.Shift b) = with_cursor (record (g.cursor) { shifted = b }) g
grid_by_setting s g setting.Save = saving g
grid_by_setting s g setting.Restore = restored_grid g
grid_by_setting s g setting.ShowAlternate = to_alternate g
grid_by_setting s g setting.ShowMain = to_main g
grid_by_setting s g setting.ClearAlternate = to_main (alternate_cleared s g)
grid_by_setting s g setting.EnterAlternate = rows_erased 0 s.rows (to_alternate (saving g))
grid_by_setting s g setting.LeaveAlternate = restored_grid (to_main g)
grid_by_setting s g setting.SoftReset = softly_reset_grid s g
grid_by_setting s g setting.Reset = reset_grid s g
