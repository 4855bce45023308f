-- No step makes a grid that a screen cannot have.
use Rattle.std.proofs.Common.{ℕ, suc, zero, ◌≡◌, ◌+◌, ◌-◌, ◌==◌, ◌<◌, ◌≤◌, min, nat_lt, Bool, true, false, ◌||◌, List, [], ◌∷◌, length, map, drop, replicate, get_or, if◌then◌else◌, refl, ◌∙◌, arith}
use Rattle.std.proofs.lemmas.Bool.Decides.{nat_tests}
use Rattle.std.proofs.lemmas.List.{length-replicate, length-set}
use Rattle.esc_screen.specs.Areas.{area_filled, end_column, end_row, has_cells}
use Rattle.esc_screen.specs.Lists.{times}
use Rattle.esc_screen.specs.Cells.{blank, blank_row, deleted_cells, drawn_cell, erased_cells, filled_cells, inserted_cells, joined_at, marked_cells, cells_with, put_wide}
use Rattle.esc_screen.specs.Cursors.{before_stop, landed_cursor, drawn_character, stop_after, stop_before}
use Rattle.esc_screen.specs.Grids.{Grid, Size, blank_rows, first_grid, in_row, line_fed, line_fed_back, grid_at, next_line, rows_erased, settled_grid, with_cursor, with_margins, with_rows}
use Rattle.esc_screen.specs.Printing.{before, column_before, has_before, has_room, row_gone_on, mark_printed, narrow_printed, grid_with_room, grid_past, grid_with_character, printed_wide, repeated_content, wide_printed, wrapped_grid, wrapped_wide}
use Rattle.esc_screen.specs.Motions.{column_by, grid_by_motion, positioned_grid, row_by, row_down, row_up, tab_before}
use Rattle.esc_screen.specs.Changes.{alignment_grid, cells_erased, columns_within, grid_by_change, is_within}
use Rattle.esc_screen.specs.Settings.{alternate_cleared, emptied_grid, exchanged_screens, grid_by_setting, saving, scrolling, to_alternate, to_main}
use Rattle.esc_screen.specs.Steps.{grid_by}
use Rattle.esc_screen.specs.Sound.{AreWide, BeginsSound, IsFull, IsOn, IsSound, StaysSound}
use Rattle.esc_screen.specs.declared.area.Area.{Area}
use Rattle.esc_screen.specs.declared.cell.Cell.{Cell}
use Rattle.esc_screen.specs.declared.change.Change.{Change}
use Rattle.esc_screen.specs.declared.change.Change.TheVariants as change
use Rattle.esc_screen.specs.declared.content.Content.{Content}
use Rattle.esc_screen.specs.declared.content.Content.TheVariants as content
use Rattle.esc_screen.specs.declared.cursor.Cursor.{Cursor}
use Rattle.esc_screen.specs.declared.motion.Motion.{Motion}
use Rattle.esc_screen.specs.declared.motion.Motion.TheVariants as motion
use Rattle.esc_screen.specs.declared.setting.Setting.{Setting}
use Rattle.esc_screen.specs.declared.setting.Setting.TheVariants as setting
use Rattle.esc_screen.specs.declared.step.Step.{Step}
use Rattle.esc_screen.specs.declared.step.Step.TheVariants as step
use Rattle.esc_screen.proofs.Sound.CursorStaysInside.{keeps_filled, length_deleted, length_erased, length_inserted, length_marked, length_put, length_put_wide, less_if, sound_columns, sound_down, sound_erased, sound_filled_part, sound_if, sound_in_row, sound_moved, sound_rows, sound_up, with_on, with_scrolling}
use Rattle.esc_screen.proofs.Sound.TabStops.{length_eighths}

-- ---- lines

pub sound_here : (s : Size) (g : Grid) → IsSound s g
    → IsSound s (settled_grid g)
sound_here s g h = sound_moved s g g.cursor.row g.cursor.column h h.cursor.row h.cursor.column

sound_fed : (s : Size) (g : Grid) → IsSound s g → IsSound s (line_fed s g)
sound_fed s g h =
    sound_if s (g.cursor.row + 1 == g.bottom) _ _
    (sound_up s (settled_grid g) 1 g.top g.bottom (sound_here s g h))
    (sound_moved s g (min (g.cursor.row + 1) (s.rows - 1)) g.cursor.column h
    (omega (arith, h.cursor.row)) h.cursor.column)

sound_back : (s : Size) (g : Grid) → IsSound s g → IsSound s (line_fed_back g)
sound_back s g h =
    sound_if s (g.cursor.row == g.top) _ _
    (sound_down s (settled_grid g) 1 g.top g.bottom (sound_here s g h))
    (sound_moved s g (g.cursor.row - 1) g.cursor.column h
    (omega (arith, h.cursor.row)) h.cursor.column)

pub sound_next : (s : Size) (g : Grid) → IsSound s g → IsSound s (next_line s g)
sound_next s g h =
    let k = sound_fed s g h in
    sound_moved s (line_fed s g) (line_fed s g).cursor.row 0 k k.cursor.row
    (omega (arith, h.cursor.column))

-- ---- characters

on_landed : (s : Size) (b : Bool) (n : ℕ) (c : Cursor) → IsOn s c
    → IsOn s (landed_cursor s.columns b n c)
on_landed s b n c h = by_test (nat_lt n s.columns) (λ e. grind (arith, nat_tests, e))
  where
    by_test : (t : Bool) → (t ≡ true → n < s.columns)
        → IsOn s (if t then record c { column = n } else record c {
          column = s.columns - 1;
          pending = b;
        })
    by_test true e = record {
      row = h.row;
      column = e refl;
    }
    by_test false e = record {
      row = h.row;
      column = omega (arith, h.column);
    }

sound_passed : (s : Size) (n : ℕ) (g : Grid) → IsSound s g → IsSound s (grid_past s n g)
sound_passed s n g h = with_on s g
    (landed_cursor s.columns g.modes.wraps (g.cursor.column + n) g.cursor)
    h (on_landed s g.modes.wraps (g.cursor.column + n) g.cursor h.cursor)

pub sound_opened : (s : Size) (n : ℕ) (g : Grid) → IsSound s g → IsSound s (grid_with_room s n g)
sound_opened s n g h = sound_if s g.modes.inserts _ _
    (sound_in_row s g (inserted_cells g.cursor.erased n g.cursor.column s.columns)
    (length_inserted g.cursor.erased n g.cursor.column s.columns) h) h

pub sound_joined : (s : Size) (g : Grid) → IsSound s g → IsSound s (row_gone_on g)
sound_joined s g h = sound_in_row s g (joined_at g.cursor.column)
    (λ ys. length-set ys g.cursor.column _) h

pub sound_wrapped : (s : Size) (g : Grid) → IsSound s g → IsSound s (wrapped_grid s g)
sound_wrapped s g h = sound_if s g.cursor.pending _ _
    (sound_if s g.modes.wraps _ _ (sound_next s (row_gone_on g) (sound_joined s g h))
    (sound_here s g h)) h

sound_printed : (s : Size) (c : ℕ) (g : Grid) → IsSound s g → IsSound s (grid_with_character s c g)
sound_printed s c g h = sound_passed s 1 (in_row (cells_with g.cursor.column g.cursor.look c) g)
    (sound_in_row s g (cells_with g.cursor.column g.cursor.look c)
    (length_put g.cursor.column g.cursor.look c) h)

pub sound_narrow : (s : Size) (c : ℕ) (g : Grid) → IsSound s g → IsSound s (narrow_printed s c g)
sound_narrow s c g h =
    let w = wrapped_grid s g in
    sound_printed s (drawn_character w.cursor c) (grid_with_room s 1 w)
    (sound_opened s 1 w (sound_wrapped s g h))

sound_printed_wide : (s : Size) (c : ℕ) (g : Grid) → IsSound s g → IsSound s (printed_wide s c g)
sound_printed_wide s c g h =
    sound_passed s 2 (in_row (put_wide g.cursor.column g.cursor.look c) g)
    (sound_in_row s g (put_wide g.cursor.column g.cursor.look c)
    (length_put_wide g.cursor.column g.cursor.look c) h)

pub sound_wrapped_wide : (s : Size) (g : Grid) → IsSound s g → IsSound s (wrapped_wide s g)
sound_wrapped_wide s g h = sound_if s (nat_lt (g.cursor.column + 1) s.columns) _ _
    (sound_wrapped s g h) (sound_next s (row_gone_on g) (sound_joined s g h))

pub sound_wide : (s : Size) (c : ℕ) (g : Grid) → IsSound s g → IsSound s (wide_printed s c g)
sound_wide s c g h = sound_if s (has_room s g) _ _
    (sound_printed_wide s c (grid_with_room s 2 (wrapped_wide s g))
    (sound_opened s 2 (wrapped_wide s g) (sound_wrapped_wide s g h))) h

sound_mark : (s : Size) (c : ℕ) (g : Grid) → IsSound s g → IsSound s (mark_printed c g)
sound_mark s c g h = sound_if s (has_before g) _ _
    (sound_in_row s g (marked_cells (column_before g) c) (length_marked (column_before g) c) h) h

sound_times : (s : Size) (n : ℕ) (f : Grid → Grid) (g : Grid)
    → ((k : Grid) → IsSound s k → IsSound s (f k)) → IsSound s g → IsSound s (times n f g)
sound_times s zero f g k h = h
sound_times s (suc n) f g k h = k (times n f g) (sound_times s n f g k h)

sound_repeated : (s : Size) (n : ℕ) (x : Content) (g : Grid) → IsSound s g
    → IsSound s (repeated_content s n x g)
sound_repeated s n content.Blank g h = h
sound_repeated s n (content.Narrow c m) g h =
    sound_times s n (narrow_printed s c) g (sound_narrow s c) h
sound_repeated s n (content.Wide c m) g h =
    sound_times s n (wide_printed s c) g (sound_wide s c) h
sound_repeated s n content.Rest g h = h

-- ---- movements

up_within : (s : Size) (n : ℕ) (g : Grid) → IsSound s g → row_up n g < s.rows
up_within s n g h = less_if (nat_lt g.cursor.row g.top) _ _ s.rows (omega (arith, h.cursor.row))
    (omega (arith, h.cursor.row, h.margins.0, h.margins.1))

down_within : (s : Size) (n : ℕ) (g : Grid) → IsSound s g → row_down s n g < s.rows
down_within s n g h = less_if (nat_lt g.cursor.row g.bottom) _ _ s.rows
    (omega (arith, h.cursor.row, h.margins.0, h.margins.1)) (omega (arith, h.cursor.row))

by_within : (s : Size) (n : ℕ) (g : Grid) → IsSound s g → row_by s n g < s.rows
by_within s n g h = less_if g.cursor.origin _ _ s.rows
    (omega (arith, h.cursor.row, h.margins.0, h.margins.1)) (omega (arith, h.cursor.row))

times_within : (m n : ℕ) (f : ℕ → ℕ) (c : ℕ) → ((k : ℕ) → k < n → f k < n) → c < n
    → times m f c < n
times_within zero n f c k h = h
times_within (suc m) n f c k h = k (times m f c) (times_within m n f c k h)

stop_within : (bs : List Bool) (n : ℕ) → stop_before bs n ≤ n
stop_within bs zero = omega arith
stop_within bs (suc n) = at_most (get_or bs n false) n (stop_before bs n) (stop_within bs n)
  where
    at_most : (b : Bool) (n k : ℕ) → k ≤ n → (if b then n else k) ≤ suc n
    at_most true n k h = omega arith
    at_most false n k h = omega (arith, h)

sound_at : (s : Size) (r n : ℕ) (g : Grid) → IsSound s g → IsSound s (positioned_grid s r n g)
sound_at s r n g h = sound_moved s g (row_by s r g) (min n (s.columns - 1)) h (by_within s r g h)
    (omega (arith, h.cursor.column))

sound_motion : (s : Size) (g : Grid) (x : Motion) → IsSound s g
    → IsSound s (grid_by_motion s g x)
sound_motion s g motion.RowStart h =
    sound_moved s g g.cursor.row 0 h h.cursor.row (omega (arith, h.cursor.column))
sound_motion s g (motion.Left n) h = sound_moved s g g.cursor.row (g.cursor.column - n) h
    h.cursor.row (omega (arith, h.cursor.column))
sound_motion s g (motion.Right n) h =
    sound_moved s g g.cursor.row (min (g.cursor.column + n) (s.columns - 1)) h h.cursor.row
    (omega (arith, h.cursor.column))
sound_motion s g (motion.Up n) h =
    sound_moved s g (row_up n g) g.cursor.column h (up_within s n g h) h.cursor.column
sound_motion s g (motion.Down n) h =
    sound_moved s g (row_down s n g) g.cursor.column h (down_within s n g h) h.cursor.column
sound_motion s g (motion.UpToStart n) h =
    sound_moved s g (row_up n g) 0 h (up_within s n g h) (omega (arith, h.cursor.column))
sound_motion s g (motion.DownToStart n) h =
    sound_moved s g (row_down s n g) 0 h (down_within s n g h) (omega (arith, h.cursor.column))
sound_motion s g (motion.Column n) h =
    sound_moved s g g.cursor.row (min n (s.columns - 1)) h h.cursor.row
    (omega (arith, h.cursor.column))
sound_motion s g (motion.Row n) h =
    sound_moved s g (row_by s n g) g.cursor.column h (by_within s n g h) h.cursor.column
sound_motion s g (motion.Position r n) h = sound_at s r n g h
sound_motion s g (motion.Tab n) h = with_on s g _ h (record {
  row = h.cursor.row;
  column = times_within (min n s.columns) s.columns (stop_after s.columns g.tabs)
      g.cursor.column
      (λ k w. last k (before_stop (drop (k + 1) g.tabs)) s.columns w) h.cursor.column;
})
  where
    last : (k m c : ℕ) → k < c → min (k + 1 + m) (c - 1) < c
    last k m c w = omega (arith, w)
sound_motion s g (motion.BackTab n) h =
    sound_moved s g g.cursor.row (tab_before s n g) h h.cursor.row
    (times_within (min n s.columns) s.columns (stop_before g.tabs) g.cursor.column
    (λ k w. below (stop_before g.tabs k) k s.columns (stop_within g.tabs k) w) h.cursor.column)
  where
    below : (m k c : ℕ) → m ≤ k → k < c → m < c
    below m k c e w = omega (arith, e, w)

-- ---- changes

sound_cells : (s : Size) (g : Grid) (m n : ℕ) → IsSound s g → IsSound s (cells_erased m n g)
sound_cells s g m n h = sound_in_row s (settled_grid g) (erased_cells g.cursor.erased m n)
    (length_erased g.cursor.erased m n) (sound_here s g h)

sound_start : (s : Size) (g : Grid) → IsSound s g → IsSound s (grid_at g.cursor.row 0 g)
sound_start s g h =
    sound_moved s g g.cursor.row 0 h h.cursor.row (omega (arith, h.cursor.column))

sound_aligned : (s : Size) (g : Grid) → IsSound s g → IsSound s (alignment_grid s g)
sound_aligned s g h =
    let k = sound_rows s g (map (filled_cells (drawn_cell 0 0x45)))
    (keeps_filled s.columns (drawn_cell 0 0x45)) h in
    let rs = with_rows (map (filled_cells (drawn_cell 0 0x45)) g.rows) g in
    let some : 0 < s.rows = omega (arith, h.cursor.row) in
    let one : 0 < s.columns = omega (arith, h.cursor.column) in
    let all : s.rows ≤ s.rows = omega arith in
    sound_moved s (with_margins 0 s.rows rs) 0 0 (with_scrolling s rs 0 s.rows k some all)
    some one

sound_columns_within : (s : Size) (g : Grid) (more : Bool) (n c : ℕ) → IsSound s g
    → IsSound s (columns_within s more n c g)
sound_columns_within s g more n c h =
    sound_if s (is_within g) _ _ (sound_columns s g more n c h) h

sound_area : (s : Size) (r : Area) (x : Cell) (g : Grid) → IsSound s g
    → IsSound s (area_filled s r x g)
sound_area s r x g h =
    sound_if s (has_cells s r g) _ _
    (sound_filled_part s g x (row_by s r.top g) (end_row s r g) (column_by s r.left)
    (end_column s r) h) h

sound_change : (s : Size) (g : Grid) (x : Change) → IsSound s g
    → IsSound s (grid_by_change s g x)
sound_change s g change.Index h = sound_fed s g h
sound_change s g change.ReverseIndex h = sound_back s g h
sound_change s g change.LineFeed h =
    sound_if s (s.returns || g.modes.new_line) _ _ (sound_next s g h) (sound_fed s g h)
sound_change s g change.FormFeed h =
    sound_if s g.modes.new_line _ _ (sound_next s g h) (sound_fed s g h)
sound_change s g change.NextLine h = sound_next s g h
sound_change s g change.EraseRight h = sound_cells s g g.cursor.column s.columns h
sound_change s g change.EraseLeft h = sound_cells s g 0 (g.cursor.column + 1) h
sound_change s g change.EraseRow h =
    sound_erased s (settled_grid g) g.cursor.row (g.cursor.row + 1) (sound_here s g h)
sound_change s g change.EraseBelow h =
    sound_erased s (cells_erased g.cursor.column s.columns g) (g.cursor.row + 1) s.rows
    (sound_cells s g g.cursor.column s.columns h)
sound_change s g change.EraseAbove h =
    sound_erased s (cells_erased 0 (g.cursor.column + 1) g) 0 g.cursor.row
    (sound_cells s g 0 (g.cursor.column + 1) h)
sound_change s g change.EraseAll h = sound_erased s (settled_grid g) 0 s.rows (sound_here s g h)
sound_change s g (change.EraseCells n) h =
    sound_cells s g g.cursor.column (g.cursor.column + n) h
sound_change s g (change.InsertCells n) h =
    sound_in_row s (settled_grid g) (inserted_cells g.cursor.erased n g.cursor.column s.columns)
    (length_inserted g.cursor.erased n g.cursor.column s.columns) (sound_here s g h)
sound_change s g (change.DeleteCells n) h =
    sound_in_row s (settled_grid g) (deleted_cells g.cursor.erased n g.cursor.column s.columns)
    (length_deleted g.cursor.erased n g.cursor.column s.columns) (sound_here s g h)
sound_change s g (change.InsertRows n) h = sound_if s (is_within g) _ _
    (sound_down s (grid_at g.cursor.row 0 g) n g.cursor.row g.bottom (sound_start s g h)) h
sound_change s g (change.DeleteRows n) h = sound_if s (is_within g) _ _
    (sound_up s (grid_at g.cursor.row 0 g) n g.cursor.row g.bottom (sound_start s g h)) h
sound_change s g (change.ScrollUp n) h = sound_up s g n g.top g.bottom h
sound_change s g (change.ScrollDown n) h = sound_down s g n g.top g.bottom h
sound_change s g (change.ScrollLeft n) h = sound_columns_within s g false n 0 h
sound_change s g (change.ScrollRight n) h = sound_columns_within s g true n 0 h
sound_change s g (change.InsertColumns n) h =
    sound_columns_within s g true n g.cursor.column h
sound_change s g (change.DeleteColumns n) h =
    sound_columns_within s g false n g.cursor.column h
sound_change s g change.BackIndex h =
    sound_if s (g.cursor.column == 0) _ _ (sound_columns_within s g true 1 0 h)
    (sound_motion s g (motion.Left 1) h)
sound_change s g change.ForwardIndex h =
    sound_if s (g.cursor.column + 1 == s.columns) _ _ (sound_columns_within s g false 1 0 h)
    (sound_motion s g (motion.Right 1) h)
sound_change s g (change.EraseArea r) h = sound_area s r (blank g.cursor.erased) g h
sound_change s g (change.FillArea c r) h =
    sound_area s r (drawn_cell g.cursor.look (drawn_character g.cursor c)) g h
sound_change s g change.Align h = sound_aligned s g h

-- ---- settings

-- with other stops, or other modes, or another cursor that is remembered
with_stops : (s : Size) (g : Grid) (bs : List Bool) → IsSound s g → length bs ≡ s.columns
    → IsSound s (record g { tabs = bs })
with_stops s g bs h e = record {
  rows = h.rows;
  other = h.other;
  cursor = h.cursor;
  saved = h.saved;
  other_saved = h.other_saved;
  margins = h.margins;
  tabs = e;
}

on_same : (s : Size) (c d : Cursor) → IsOn s c → d.row ≡ c.row → d.column ≡ c.column → IsOn s d
on_same s c d h r n = record {
  row = omega (arith, h.row, r);
  column = omega (arith, h.column, n);
}

sound_scrolling : (s : Size) (m n : ℕ) (g : Grid) → IsSound s g → IsSound s (scrolling s m n g)
sound_scrolling s m n g h =
    by_test (nat_lt (m + 1) (min n s.rows)) (λ e. grind (arith, nat_tests, e))
  where
    by_test : (b : Bool) → (b ≡ true → m + 1 < min n s.rows)
        → IsSound s (if b then positioned_grid s 0 0 (with_margins m (min n s.rows) g) else g)
    by_test false e = h
    by_test true e = sound_at s 0 0 (with_margins m (min n s.rows) g)
        (with_scrolling s g m (min n s.rows) h (omega (arith, e refl)) (omega arith))

sound_emptied : (s : Size) (g : Grid) → IsSound s g → IsSound s (emptied_grid s g)
sound_emptied s g h =
    let rs = rows_erased 0 s.rows g in
    let k = sound_erased s g 0 s.rows h in
    let some : 0 < s.rows = omega (arith, h.cursor.row) in
    let one : 0 < s.columns = omega (arith, h.cursor.column) in
    let all : s.rows ≤ s.rows = omega arith in
    sound_moved s (with_margins 0 s.rows rs) 0 0 (with_scrolling s rs 0 s.rows k some all)
    some one

sound_saving : (s : Size) (g : Grid) → IsSound s g → IsSound s (saving g)
sound_saving s g h = record {
  rows = h.rows;
  other = h.other;
  cursor = h.cursor;
  saved = h.cursor;
  other_saved = h.other_saved;
  margins = h.margins;
  tabs = h.tabs;
}

sound_exchanged : (s : Size) (g : Grid) → IsSound s g → IsSound s (exchanged_screens g)
sound_exchanged s g h = record {
  rows = h.other;
  other = h.rows;
  cursor = h.cursor;
  saved = h.other_saved;
  other_saved = h.saved;
  margins = h.margins;
  tabs = h.tabs;
}

sound_alternate : (s : Size) (g : Grid) → IsSound s g → IsSound s (to_alternate g)
sound_alternate s g h = sound_if s g.alternate _ _ h (sound_exchanged s g h)

sound_main : (s : Size) (g : Grid) → IsSound s g → IsSound s (to_main g)
sound_main s g h = sound_if s g.alternate _ _ (sound_exchanged s g h) h

sound_setting : (s : Size) (g : Grid) (x : Setting) → IsSound s g
    → IsSound s (grid_by_setting s g x)
sound_setting s g (setting.Select l e) h =
    with_on s g _ h (on_same s g.cursor _ h.cursor refl refl)
sound_setting s g setting.SetTab h =
    with_stops s g _ h (length-set g.tabs g.cursor.column true ∙ h.tabs)
sound_setting s g setting.ClearTab h =
    with_stops s g _ h (length-set g.tabs g.cursor.column false ∙ h.tabs)
sound_setting s g setting.ClearTabs h =
    with_stops s g _ h (length-replicate (length g.tabs) false ∙ h.tabs)
sound_setting s g (setting.Margins m n) h = sound_scrolling s m n g h
sound_setting s g (setting.Mode m b) h = record {
  rows = h.rows;
  other = h.other;
  cursor = h.cursor;
  saved = h.saved;
  other_saved = h.other_saved;
  margins = h.margins;
  tabs = h.tabs;
}
sound_setting s g (setting.Origin b) h =
    sound_at s 0 0 (with_cursor (record (g.cursor) { origin = b }) g)
    (with_on s g _ h (on_same s g.cursor _ h.cursor refl refl))
sound_setting s g setting.Columns h = sound_if s g.modes.columns _ _ (sound_emptied s g h) h
sound_setting s g (setting.G0Draws b) h =
    with_on s g _ h (on_same s g.cursor _ h.cursor refl refl)
sound_setting s g (setting.G1Draws b) h =
    with_on s g _ h (on_same s g.cursor _ h.cursor refl refl)
sound_setting s g (setting.Shift b) h =
    with_on s g _ h (on_same s g.cursor _ h.cursor refl refl)
sound_setting s g setting.Save h = sound_saving s g h
sound_setting s g setting.Restore h = with_on s g g.saved h h.saved
sound_setting s g setting.ShowAlternate h = sound_alternate s g h
sound_setting s g setting.ShowMain h = sound_main s g h
sound_setting s g setting.ClearAlternate h = sound_main s (alternate_cleared s g)
    (sound_if s g.alternate _ _ (sound_erased s g 0 s.rows h) h)
sound_setting s g setting.EnterAlternate h = sound_erased s (to_alternate (saving g)) 0 s.rows
    (sound_alternate s (saving g) (sound_saving s g h))
sound_setting s g setting.LeaveAlternate h =
    let k = sound_main s g h in
    with_on s (to_main g) (to_main g).saved k k.saved
sound_setting s g setting.SoftReset h = record {
  rows = h.rows;
  other = h.other;
  cursor = on_same s g.cursor _ h.cursor refl refl;
  saved = record {
    row = omega (arith, h.cursor.row);
    column = omega (arith, h.cursor.column);
  };
  other_saved = h.other_saved;
  margins = (omega (arith, h.cursor.row), omega arith);
  tabs = h.tabs;
}
sound_setting s g setting.Reset h =
    let k = keeps_filled s.columns (blank 0) in
    let start : IsOn s (first_grid s).cursor = record {
      row = omega (arith, h.cursor.row);
      column = omega (arith, h.cursor.column);
    } in
    record {
      rows = record {
        height = k.height g.rows ∙ h.rows.height;
        width = k.width g.rows h.rows.width;
      };
      other = record {
        height = k.height g.other ∙ h.other.height;
        width = k.width g.other h.other.width;
      };
      cursor = start;
      saved = start;
      other_saved = start;
      margins = (omega (arith, h.cursor.row), omega arith);
      tabs = length_eighths 0 g.tabs ∙ h.tabs;
    }

-- ---- steps

pub sound_by : (s : Size) (g : Grid) (x : Step) → IsSound s g → IsSound s (grid_by s g x)
sound_by s g (step.Print c) h = sound_narrow s c g h
sound_by s g (step.PrintWide c) h = sound_wide s c g h
sound_by s g (step.Mark c) h = sound_mark s c g h
sound_by s g (step.Repeat n) h = sound_repeated s (min n s.columns) (before g) g h
sound_by s g (step.Move x) h = sound_motion s g x h
sound_by s g (step.Edit x) h = sound_change s g x h
sound_by s g (step.Set x) h = sound_setting s g x h
sound_by s g step.Nothing h = h

pub stays_sound : StaysSound
stays_sound s g [] h = h
stays_sound s g (x ∷ xs) h = stays_sound s (grid_by s g x) xs (sound_by s g x h)

full_at_first : (s : Size) → IsFull s (blank_rows s 0)
full_at_first s = record {
  height = length-replicate s.rows (blank_row 0 s.columns);
  width = wide s.rows;
}
  where
    wide : (k : ℕ) → AreWide s.columns (replicate k (blank_row 0 s.columns))
    wide zero = omega arith
    wide (suc k) = (length-replicate s.columns (blank 0), wide k)

pub begins_sound : BeginsSound
begins_sound s rows columns =
    let start : IsOn s (first_grid s).cursor = record {
      row = rows;
      column = columns;
    } in
    record {
      rows = full_at_first s;
      other = full_at_first s;
      cursor = start;
      saved = start;
      other_saved = start;
      margins = (rows, omega arith);
      tabs = length_eighths 0 (replicate s.columns false) ∙ length-replicate s.columns false;
    }
