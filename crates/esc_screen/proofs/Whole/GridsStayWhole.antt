-- No half of a wide character stands alone: grids.
use Rattle.std.proofs.Common.{ℕ, suc, zero, ◌≡◌, ◌+◌, ◌-◌, ◌==◌, ◌<◌, ◌≤◌, min, nat_lt, Bool, true, false, ◌||◌, List, [], ◌∷◌, ◌++◌, length, map, set, take, drop, replicate, get_or, if◌then◌else◌, refl, subst, sym, arith}
use Rattle.std.proofs.lemmas.Bool.{and_parts}
use Rattle.std.proofs.lemmas.Bool.Decides.{nat_tests}
use Rattle.esc_screen.specs.Lists.{in_part, moved_down, moved_up, times}
use Rattle.esc_screen.specs.Areas.{area_filled, end_column, end_row, has_cells}
use Rattle.esc_screen.specs.Cells.{blank, blank_row, cleared_cells, deleted_cells, drawn_cell, erased_cells, filled_cells, filled_part, inserted_cells, is_rest, joined_at, marked_cells, cells_with, put_wide, shifted_cells}
use Rattle.esc_screen.specs.Changes.{alignment_grid, cells_erased, columns_moved, columns_within, next_row, grid_by_change, is_within}
use Rattle.esc_screen.specs.Cursors.{drawn_character}
use Rattle.esc_screen.specs.Grids.{Grid, Size, in_row, line_fed, line_fed_back, grid_at, next_line, rows_down, rows_erased, rows_up, settled_grid, with_rows}
use Rattle.esc_screen.specs.Halves.{AreWhole, BeginsWhole, HasWholeRows, IsWhole, StaysWhole, is_wide}
use Rattle.esc_screen.specs.Motions.{column_by, grid_by_motion, row_by}
use Rattle.esc_screen.specs.Printing.{before, column_before, has_before, has_room, row_gone_on, mark_printed, narrow_printed, grid_with_room, grid_with_character, printed_wide, repeated_content, wide_printed, wrapped_grid, wrapped_wide}
use Rattle.esc_screen.specs.Settings.{alternate_cleared, emptied_grid, exchanged_screens, grid_by_setting, saving, scrolling, to_alternate, to_main}
use Rattle.esc_screen.specs.Sound.{AreWide, IsSound}
use Rattle.esc_screen.specs.Steps.{grid_by}
use Rattle.esc_screen.specs.declared.area.Area.{Area}
use Rattle.esc_screen.specs.declared.cell.Cell.{Cell}
use Rattle.esc_screen.specs.declared.change.Change.{Change}
use Rattle.esc_screen.specs.declared.change.Change.TheVariants as change
use Rattle.esc_screen.specs.declared.content.Content.{Content}
use Rattle.esc_screen.specs.declared.content.Content.TheVariants as content
use Rattle.esc_screen.specs.declared.motion.Motion.{Motion}
use Rattle.esc_screen.specs.declared.motion.Motion.TheVariants as motion
use Rattle.esc_screen.specs.declared.setting.Setting.{Setting}
use Rattle.esc_screen.specs.declared.setting.Setting.TheVariants as setting
use Rattle.esc_screen.specs.declared.step.Step.{Step}
use Rattle.esc_screen.specs.declared.step.Step.TheVariants as step
use Rattle.esc_screen.proofs.Sound.CursorStaysInside.{wide_drop, wide_take}
use Rattle.esc_screen.proofs.Sound.StaysSound.{sound_by, sound_here, sound_narrow, sound_opened, sound_wide, sound_wrapped, sound_wrapped_wide}
use Rattle.esc_screen.proofs.Whole.RowsStayWhole.{whole_deleted, whole_erased, whole_filled, whole_filled_part, whole_inserted, whole_joined, whole_marked, whole_put, whole_put_wide, whole_shifted}

-- ---- rows

pub rows_append : (xs ys : List (List Cell)) → AreWhole xs → AreWhole ys → AreWhole (xs ++ ys)
rows_append [] ys h k = k
rows_append (x ∷ xs) ys h k = (h.0, rows_append xs ys h.1 k)

pub rows_take : (n : ℕ) (xs : List (List Cell)) → AreWhole xs → AreWhole (take n xs)
rows_take zero xs h = omega arith
rows_take (suc n) [] h = omega arith
rows_take (suc n) (x ∷ xs) h = (h.0, rows_take n xs h.1)

pub rows_drop : (n : ℕ) (xs : List (List Cell)) → AreWhole xs → AreWhole (drop n xs)
rows_drop zero xs h = h
rows_drop (suc n) [] h = omega arith
rows_drop (suc n) (x ∷ xs) h = rows_drop n xs h.1

-- rows of one cell that is no half are whole
rows_filled : (x : Cell) (xs : List (List Cell)) → is_rest x ≡ false → is_wide x ≡ false
    → AreWhole (map (filled_cells x) xs)
rows_filled x [] r v = omega arith
rows_filled x (y ∷ ys) r v = (whole_filled x (length y) r v, rows_filled x ys r v)

rows_cleared : (l : ℕ) (xs : List (List Cell)) → AreWhole (map (cleared_cells l) xs)
rows_cleared l xs = rows_filled (blank l) xs refl refl

rows_part : (m n : ℕ) (f : List (List Cell) → List (List Cell)) (xs : List (List Cell))
    → AreWhole xs → ((ys : List (List Cell)) → AreWhole ys → AreWhole (f ys))
    → AreWhole (in_part m n f xs)
rows_part m n f xs h k =
    let ys = drop m xs in
    let w = rows_drop m xs h in
    rows_append (take m xs) _ (rows_take m xs h)
    (rows_append (f (take (n - m) ys)) (drop (n - m) ys) (k _ (rows_take (n - m) ys w))
    (rows_drop (n - m) ys w))

-- a row of so many cells that is changed
rows_changed : (c r : ℕ) (f : List Cell → List Cell) (xs : List (List Cell)) → AreWide c xs
    → ((ys : List Cell) → length ys ≡ c → IsWhole ys → IsWhole (f ys)) → AreWhole xs
    → AreWhole (set xs r (f (get_or xs r [])))
rows_changed c r f [] w k h = h
rows_changed c zero f (x ∷ xs) w k h = (k x w.0 h.0, h.1)
rows_changed c (suc r) f (x ∷ xs) w k h = (h.0, rows_changed c r f xs w.1 k h.1)

rows_shifted : (more : Bool) (l k m n : ℕ) (xs : List (List Cell)) → AreWide n xs → m ≤ n
    → AreWhole xs → AreWhole (map (shifted_cells more l k m n) xs)
rows_shifted more l k m n [] w within h = omega arith
rows_shifted more l k m n (x ∷ xs) w within h =
    (whole_shifted more l k m n x w.0 within h.0, rows_shifted more l k m n xs w.1 within h.1)

-- ---- grids

with_whole : (g : Grid) (rs : List (List Cell)) → HasWholeRows g → AreWhole rs
    → HasWholeRows (with_rows rs g)
with_whole g rs h w = record {
  rows = w;
  other = h.other;
}

-- with the same rows
same_rows : (g k : Grid) → HasWholeRows g → k.rows ≡ g.rows → k.other ≡ g.other
    → HasWholeRows k
same_rows g k h e f = record {
  rows = subst AreWhole (sym e) h.rows;
  other = subst AreWhole (sym f) h.other;
}

whole_if : (b : Bool) (g h : Grid) → HasWholeRows g → HasWholeRows h
    → HasWholeRows (if b then g else h)
whole_if true g h x y = x
whole_if false g h x y = y

whole_moved : (r n : ℕ) (g : Grid) → HasWholeRows g → HasWholeRows (grid_at r n g)
whole_moved r n g h = record {
  rows = h.rows;
  other = h.other;
}

whole_in_row : (s : Size) (g : Grid) (f : List Cell → List Cell) → IsSound s g
    → ((ys : List Cell) → length ys ≡ s.columns → IsWhole ys → IsWhole (f ys))
    → HasWholeRows g → HasWholeRows (in_row f g)
whole_in_row s g f o k h =
    with_whole g _ h (rows_changed s.columns g.cursor.row f g.rows o.rows.width k h.rows)

whole_up : (k m n : ℕ) (g : Grid) → HasWholeRows g → HasWholeRows (rows_up k m n g)
whole_up k m n g h =
    let f = map (cleared_cells g.cursor.erased) in
    with_whole g _ h (rows_part m n (moved_up k f) g.rows h.rows (λ ys w.
    rows_append (drop k ys) (f (take k ys)) (rows_drop k ys w)
    (rows_cleared g.cursor.erased (take k ys))))

whole_down : (k m n : ℕ) (g : Grid) → HasWholeRows g → HasWholeRows (rows_down k m n g)
whole_down k m n g h =
    let f = map (cleared_cells g.cursor.erased) in
    with_whole g _ h (rows_part m n (moved_down k f) g.rows h.rows (λ ys w.
    let i = length ys - k in
    rows_append (f (drop i ys)) (take i ys) (rows_cleared g.cursor.erased (drop i ys))
    (rows_take i ys w)))

whole_rows_erased : (m n : ℕ) (g : Grid) → HasWholeRows g → HasWholeRows (rows_erased m n g)
whole_rows_erased m n g h = with_whole g _ h
    (rows_part m n (map (cleared_cells g.cursor.erased)) g.rows h.rows
    (λ ys w. rows_cleared g.cursor.erased ys))

-- ---- lines

whole_fed : (s : Size) (g : Grid) → HasWholeRows g → HasWholeRows (line_fed s g)
whole_fed s g h = whole_if (g.cursor.row + 1 == g.bottom) _ _
    (whole_up 1 g.top g.bottom (settled_grid g) (whole_moved g.cursor.row g.cursor.column g h))
    (whole_moved (min (g.cursor.row + 1) (s.rows - 1)) g.cursor.column g h)

whole_back : (g : Grid) → HasWholeRows g → HasWholeRows (line_fed_back g)
whole_back g h = whole_if (g.cursor.row == g.top) _ _
    (whole_down 1 g.top g.bottom (settled_grid g) (whole_moved g.cursor.row g.cursor.column g h))
    (whole_moved (g.cursor.row - 1) g.cursor.column g h)

whole_next : (s : Size) (g : Grid) → HasWholeRows g → HasWholeRows (next_line s g)
whole_next s g h = whole_moved (line_fed s g).cursor.row 0 (line_fed s g) (whole_fed s g h)

whole_line : (s : Size) (b : Bool) (g : Grid) → HasWholeRows g → HasWholeRows (next_row s b g)
whole_line s b g h = whole_if b _ _ (whole_next s g h) (whole_fed s g h)

-- ---- characters

whole_join : (s : Size) (g : Grid) → IsSound s g → HasWholeRows g → HasWholeRows (row_gone_on g)
whole_join s g o h =
    whole_in_row s g (joined_at g.cursor.column) o (λ ys e w. whole_joined g.cursor.column ys w) h

whole_wrapped : (s : Size) (g : Grid) → IsSound s g → HasWholeRows g
    → HasWholeRows (wrapped_grid s g)
whole_wrapped s g o h = whole_if g.cursor.pending _ _
    (whole_if g.modes.wraps _ _ (whole_next s (row_gone_on g) (whole_join s g o h))
    (whole_moved g.cursor.row g.cursor.column g h)) h

whole_wrapped_wide : (s : Size) (g : Grid) → IsSound s g → HasWholeRows g
    → HasWholeRows (wrapped_wide s g)
whole_wrapped_wide s g o h = whole_if (nat_lt (g.cursor.column + 1) s.columns) _ _
    (whole_wrapped s g o h) (whole_next s (row_gone_on g) (whole_join s g o h))

below : (m n : ℕ) → m < n → m ≤ n
below m n h = omega (arith, h)

whole_opened : (s : Size) (n : ℕ) (g : Grid) → IsSound s g → HasWholeRows g
    → HasWholeRows (grid_with_room s n g)
whole_opened s n g o h = whole_if g.modes.inserts _ _
    (whole_in_row s g (inserted_cells g.cursor.erased n g.cursor.column s.columns) o (λ ys e w.
    whole_inserted g.cursor.erased n g.cursor.column s.columns ys e
    (below g.cursor.column s.columns o.cursor.column) w) h) h

whole_printed : (s : Size) (c : ℕ) (g : Grid) → IsSound s g → HasWholeRows g
    → HasWholeRows (grid_with_character s c g)
whole_printed s c g o h = same_rows
    (in_row (cells_with g.cursor.column g.cursor.look c) g) _
    (whole_in_row s g (cells_with g.cursor.column g.cursor.look c) o
    (λ ys e w. whole_put g.cursor.column g.cursor.look c ys w) h) refl refl

whole_narrow : (s : Size) (c : ℕ) (g : Grid) → IsSound s g → HasWholeRows g
    → HasWholeRows (narrow_printed s c g)
whole_narrow s c g o h =
    let w = wrapped_grid s g in
    let v = sound_wrapped s g o in
    whole_printed s (drawn_character w.cursor c) (grid_with_room s 1 w) (sound_opened s 1 w v)
    (whole_opened s 1 w v (whole_wrapped s g o h))

fits_two : (n c : ℕ) (ys : List Cell) → length ys ≡ c → n + 1 < c → n + 1 < length ys
fits_two n c ys e h = omega (arith, e, h)

whole_printed_wide : (s : Size) (c : ℕ) (g : Grid) → g.cursor.column + 1 < s.columns
    → IsSound s g → HasWholeRows g → HasWholeRows (printed_wide s c g)
whole_printed_wide s c g less o h = same_rows
    (in_row (put_wide g.cursor.column g.cursor.look c) g) _
    (whole_in_row s g (put_wide g.cursor.column g.cursor.look c) o
    (λ ys e w. whole_put_wide g.cursor.column g.cursor.look c ys
    (fits_two g.cursor.column s.columns ys e less) w) h) refl refl

-- where one of two columns comes, there are two
opened_column : (s : Size) (n : ℕ) (g : Grid) → (grid_with_room s n g).cursor.column
    ≡ g.cursor.column
opened_column s n g = by_test g.modes.inserts
  where
    by_test : (b : Bool)
        → (if b then in_row (inserted_cells g.cursor.erased n g.cursor.column s.columns) g
        else g).cursor.column ≡ g.cursor.column
    by_test true = refl
    by_test false = refl

has_two : (s : Size) (g : Grid) → has_room s g ≡ true
    → (wrapped_wide s g).cursor.column + 1 < s.columns
has_two s g h =
    let room = nat_lt 1 s.columns in
    let k = and_parts room (g.modes.wraps || nat_lt (g.cursor.column + 1) s.columns) h in
    let some : 0 + 1 < s.columns = grind (arith, nat_tests, k.0) in
    by_test (nat_lt (g.cursor.column + 1) s.columns) some (λ e. grind (arith, nat_tests, e))
  where
    either : (p w : Bool) → 0 + 1 < s.columns → g.cursor.column + 1 < s.columns
        → (if p then if w then next_line s (row_gone_on g) else settled_grid g else g).cursor.column
        + 1
        < s.columns
    either true true some less = some
    either true false some less = less
    either false w some less = less

    by_test : (t : Bool) → 0 + 1 < s.columns
        → (t ≡ true → g.cursor.column + 1 < s.columns)
        → (if t then wrapped_grid s g else next_line s (row_gone_on g)).cursor.column + 1
        < s.columns
    by_test true some less = either g.cursor.pending g.modes.wraps some (less refl)
    by_test false some less = some

whole_wide : (s : Size) (c : ℕ) (g : Grid) → IsSound s g → HasWholeRows g
    → HasWholeRows (wide_printed s c g)
whole_wide s c g o h = by_test (has_room s g) (λ e. e)
  where
    by_test : (b : Bool) → (b ≡ true → has_room s g ≡ true)
        → HasWholeRows (if b then printed_wide s c (grid_with_room s 2 (wrapped_wide s g)) else g)
    by_test false e = h
    by_test true e =
        let w = wrapped_wide s g in
        let v = sound_wrapped_wide s g o in
        let k = has_two s g (e refl) in
        let less : (grid_with_room s 2 w).cursor.column + 1 < s.columns =
        subst (λ n. n + 1 < s.columns) (sym (opened_column s 2 w)) k in
        whole_printed_wide s c (grid_with_room s 2 w) less (sound_opened s 2 w v)
        (whole_opened s 2 w v (whole_wrapped_wide s g o h))

whole_mark : (s : Size) (c : ℕ) (g : Grid) → IsSound s g → HasWholeRows g
    → HasWholeRows (mark_printed c g)
whole_mark s c g o h = whole_if (has_before g) _ _
    (whole_in_row s g (marked_cells (column_before g) c) o
    (λ ys e w. whole_marked (column_before g) c ys w) h) h

-- a sound grid with whole rows
record IsGood (s : Size) (g : Grid) : Type 0 where
  pub sound : IsSound s g
  pub whole : HasWholeRows g

good_times : (s : Size) (n : ℕ) (f : Grid → Grid) (g : Grid)
    → ((k : Grid) → IsGood s k → IsGood s (f k)) → IsGood s g → IsGood s (times n f g)
good_times s zero f g k h = h
good_times s (suc n) f g k h = k (times n f g) (good_times s n f g k h)

whole_repeated : (s : Size) (n : ℕ) (x : Content) (g : Grid) → IsSound s g → HasWholeRows g
    → HasWholeRows (repeated_content s n x g)
whole_repeated s n content.Blank g o h = h
whole_repeated s n (content.Narrow c m) g o h =
    (good_times s n (narrow_printed s c) g (λ k w. record {
      sound = sound_narrow s c k w.sound;
      whole = whole_narrow s c k w.sound w.whole;
    }) (record {
      sound = o;
      whole = h;
    })).whole
whole_repeated s n (content.Wide c m) g o h =
    (good_times s n (wide_printed s c) g (λ k w. record {
      sound = sound_wide s c k w.sound;
      whole = whole_wide s c k w.sound w.whole;
    }) (record {
      sound = o;
      whole = h;
    })).whole
whole_repeated s n content.Rest g o h = h

-- ---- movements

whole_motion : (s : Size) (g : Grid) (x : Motion) → HasWholeRows g
    → HasWholeRows (grid_by_motion s g x)
whole_motion s g motion.RowStart h = same_rows g _ h refl refl
whole_motion s g (motion.Left n) h = same_rows g _ h refl refl
whole_motion s g (motion.Right n) h = same_rows g _ h refl refl
whole_motion s g (motion.Up n) h = same_rows g _ h refl refl
whole_motion s g (motion.Down n) h = same_rows g _ h refl refl
whole_motion s g (motion.UpToStart n) h = same_rows g _ h refl refl
whole_motion s g (motion.DownToStart n) h = same_rows g _ h refl refl
whole_motion s g (motion.Column n) h = same_rows g _ h refl refl
whole_motion s g (motion.Row n) h = same_rows g _ h refl refl
whole_motion s g (motion.Position r n) h = same_rows g _ h refl refl
whole_motion s g (motion.Tab n) h = same_rows g _ h refl refl
whole_motion s g (motion.BackTab n) h = same_rows g _ h refl refl

-- ---- changes

whole_cells : (s : Size) (g : Grid) (m n : ℕ) → IsSound s g → HasWholeRows g
    → HasWholeRows (cells_erased m n g)
whole_cells s g m n o h =
    whole_in_row s (settled_grid g) (erased_cells g.cursor.erased m n) (sound_here s g o)
    (λ ys e w. whole_erased g.cursor.erased m n ys w)
    (whole_moved g.cursor.row g.cursor.column g h)

whole_columns : (s : Size) (g : Grid) (more : Bool) (n c : ℕ) → IsSound s g → c ≤ s.columns
    → HasWholeRows g → HasWholeRows (columns_moved s more n c g)
whole_columns s g more n c o within h =
    let e = g.cursor.erased in
    let ys = drop g.top g.rows in
    let k = g.bottom - g.top in
    let w = wide_drop s.columns g.top g.rows o.rows.width in
    let v = rows_drop g.top g.rows h.rows in
    with_whole g _ h
    (rows_append (take g.top g.rows) _ (rows_take g.top g.rows h.rows)
    (rows_append (map (shifted_cells more e n c s.columns) (take k ys)) (drop k ys)
    (rows_shifted more e n c s.columns (take k ys) (wide_take s.columns k ys w) within
    (rows_take k ys v))
    (rows_drop k ys v)))

whole_columns_within : (s : Size) (g : Grid) (more : Bool) (n c : ℕ) → IsSound s g
    → c ≤ s.columns → HasWholeRows g → HasWholeRows (columns_within s more n c g)
whole_columns_within s g more n c o within h =
    whole_if (is_within g) _ _ (whole_columns s g more n c o within h) h

rows_filled_part : (x : Cell) (a b : ℕ) (xs : List (List Cell)) → is_rest x ≡ false
    → is_wide x ≡ false → AreWhole xs → AreWhole (map (filled_part x a b) xs)
rows_filled_part x a b [] r v h = omega arith
rows_filled_part x a b (y ∷ ys) r v h =
    (whole_filled_part x a b y r v h.0, rows_filled_part x a b ys r v h.1)

whole_area : (s : Size) (r : Area) (x : Cell) (g : Grid) → is_rest x ≡ false
    → is_wide x ≡ false → HasWholeRows g → HasWholeRows (area_filled s r x g)
whole_area s r x g e f h =
    let a = column_by s r.left in
    let b = end_column s r in
    whole_if (has_cells s r g) _ _
    (with_whole g _ h (rows_part (row_by s r.top g) (end_row s r g) (map (filled_part x a b)) g.rows
    h.rows (λ ys w. rows_filled_part x a b ys e f w))) h

whole_aligned : (s : Size) (g : Grid) → HasWholeRows g → HasWholeRows (alignment_grid s g)
whole_aligned s g h = record {
  rows = rows_filled (drawn_cell 0 0x45) g.rows refl refl;
  other = h.other;
}

none_within : (n : ℕ) → 0 ≤ n
none_within n = omega arith

whole_change : (s : Size) (g : Grid) (x : Change) → IsSound s g → HasWholeRows g
    → HasWholeRows (grid_by_change s g x)
whole_change s g change.Index o h = whole_fed s g h
whole_change s g change.ReverseIndex o h = whole_back g h
whole_change s g change.LineFeed o h = whole_line s (s.returns || g.modes.new_line) g h
whole_change s g change.FormFeed o h = whole_line s g.modes.new_line g h
whole_change s g change.NextLine o h = whole_next s g h
whole_change s g change.EraseRight o h = whole_cells s g g.cursor.column s.columns o h
whole_change s g change.EraseLeft o h = whole_cells s g 0 (g.cursor.column + 1) o h
whole_change s g change.EraseRow o h =
    whole_rows_erased g.cursor.row (g.cursor.row + 1) (settled_grid g)
    (whole_moved g.cursor.row g.cursor.column g h)
whole_change s g change.EraseBelow o h =
    whole_rows_erased (g.cursor.row + 1) s.rows (cells_erased g.cursor.column s.columns g)
    (whole_cells s g g.cursor.column s.columns o h)
whole_change s g change.EraseAbove o h =
    whole_rows_erased 0 g.cursor.row (cells_erased 0 (g.cursor.column + 1) g)
    (whole_cells s g 0 (g.cursor.column + 1) o h)
whole_change s g change.EraseAll o h = whole_rows_erased 0 s.rows (settled_grid g)
    (whole_moved g.cursor.row g.cursor.column g h)
whole_change s g (change.EraseCells n) o h =
    whole_cells s g g.cursor.column (g.cursor.column + n) o h
whole_change s g (change.InsertCells n) o h =
    whole_in_row s (settled_grid g) (inserted_cells g.cursor.erased n g.cursor.column s.columns)
    (sound_here s g o)
    (λ ys e w. whole_inserted g.cursor.erased n g.cursor.column s.columns ys e
    (below g.cursor.column s.columns o.cursor.column) w)
    (whole_moved g.cursor.row g.cursor.column g h)
whole_change s g (change.DeleteCells n) o h =
    whole_in_row s (settled_grid g) (deleted_cells g.cursor.erased n g.cursor.column s.columns)
    (sound_here s g o)
    (λ ys e w. whole_deleted g.cursor.erased n g.cursor.column s.columns ys e w)
    (whole_moved g.cursor.row g.cursor.column g h)
whole_change s g (change.InsertRows n) o h = whole_if (is_within g) _ _
    (whole_down n g.cursor.row g.bottom (grid_at g.cursor.row 0 g)
    (whole_moved g.cursor.row 0 g h)) h
whole_change s g (change.DeleteRows n) o h = whole_if (is_within g) _ _
    (whole_up n g.cursor.row g.bottom (grid_at g.cursor.row 0 g)
    (whole_moved g.cursor.row 0 g h)) h
whole_change s g (change.ScrollUp n) o h = whole_up n g.top g.bottom g h
whole_change s g (change.ScrollDown n) o h = whole_down n g.top g.bottom g h
whole_change s g (change.ScrollLeft n) o h =
    whole_columns_within s g false n 0 o (none_within s.columns) h
whole_change s g (change.ScrollRight n) o h =
    whole_columns_within s g true n 0 o (none_within s.columns) h
whole_change s g (change.InsertColumns n) o h =
    whole_columns_within s g true n g.cursor.column o
    (below g.cursor.column s.columns o.cursor.column) h
whole_change s g (change.DeleteColumns n) o h =
    whole_columns_within s g false n g.cursor.column o
    (below g.cursor.column s.columns o.cursor.column) h
whole_change s g change.BackIndex o h =
    whole_if (g.cursor.column == 0) _ _
    (whole_columns_within s g true 1 0 o (none_within s.columns) h)
    (whole_motion s g (motion.Left 1) h)
whole_change s g change.ForwardIndex o h =
    whole_if (g.cursor.column + 1 == s.columns) _ _
    (whole_columns_within s g false 1 0 o (none_within s.columns) h)
    (whole_motion s g (motion.Right 1) h)
whole_change s g (change.EraseArea r) o h = whole_area s r (blank g.cursor.erased) g refl refl h
whole_change s g (change.FillArea c r) o h =
    whole_area s r (drawn_cell g.cursor.look (drawn_character g.cursor c)) g refl refl h
whole_change s g change.Align o h = whole_aligned s g h

-- ---- settings

whole_scrolling : (s : Size) (m n : ℕ) (g : Grid) → HasWholeRows g
    → HasWholeRows (scrolling s m n g)
whole_scrolling s m n g h =
    whole_if (nat_lt (m + 1) (min n s.rows)) _ _ (same_rows g _ h refl refl) h

whole_exchanged : (g : Grid) → HasWholeRows g → HasWholeRows (exchanged_screens g)
whole_exchanged g h = record {
  rows = h.other;
  other = h.rows;
}

whole_alternate : (g : Grid) → HasWholeRows g → HasWholeRows (to_alternate g)
whole_alternate g h = whole_if g.alternate _ _ h (whole_exchanged g h)

whole_main : (g : Grid) → HasWholeRows g → HasWholeRows (to_main g)
whole_main g h = whole_if g.alternate _ _ (whole_exchanged g h) h

whole_setting : (s : Size) (g : Grid) (x : Setting) → HasWholeRows g
    → HasWholeRows (grid_by_setting s g x)
whole_setting s g (setting.Select l e) h = same_rows g _ h refl refl
whole_setting s g setting.SetTab h = same_rows g _ h refl refl
whole_setting s g setting.ClearTab h = same_rows g _ h refl refl
whole_setting s g setting.ClearTabs h = same_rows g _ h refl refl
whole_setting s g (setting.Margins m n) h = whole_scrolling s m n g h
whole_setting s g (setting.Mode m b) h = same_rows g _ h refl refl
whole_setting s g (setting.Origin b) h = same_rows g _ h refl refl
whole_setting s g setting.Columns h =
    let k = whole_rows_erased 0 s.rows g h in
    whole_if g.modes.columns _ _
    (same_rows (rows_erased 0 s.rows g) (emptied_grid s g) k refl refl) h
whole_setting s g (setting.G0Draws b) h = same_rows g _ h refl refl
whole_setting s g (setting.G1Draws b) h = same_rows g _ h refl refl
whole_setting s g (setting.Shift b) h = same_rows g _ h refl refl
whole_setting s g setting.Save h = same_rows g _ h refl refl
whole_setting s g setting.Restore h = same_rows g _ h refl refl
whole_setting s g setting.ShowAlternate h = whole_alternate g h
whole_setting s g setting.ShowMain h = whole_main g h
whole_setting s g setting.ClearAlternate h =
    whole_main (alternate_cleared s g)
    (whole_if g.alternate _ _ (whole_rows_erased 0 s.rows g h) h)
whole_setting s g setting.EnterAlternate h =
    whole_rows_erased 0 s.rows (to_alternate (saving g))
    (whole_alternate (saving g) (same_rows g _ h refl refl))
whole_setting s g setting.LeaveAlternate h =
    same_rows (to_main g) _ (whole_main g h) refl refl
whole_setting s g setting.SoftReset h = same_rows g _ h refl refl
whole_setting s g setting.Reset h = record {
  rows = rows_cleared 0 g.rows;
  other = rows_cleared 0 g.other;
}

-- ---- steps

whole_by : (s : Size) (g : Grid) (x : Step) → IsSound s g → HasWholeRows g
    → HasWholeRows (grid_by s g x)
whole_by s g (step.Print c) o h = whole_narrow s c g o h
whole_by s g (step.PrintWide c) o h = whole_wide s c g o h
whole_by s g (step.Mark c) o h = whole_mark s c g o h
whole_by s g (step.Repeat n) o h = whole_repeated s (min n s.columns) (before g) g o h
whole_by s g (step.Move x) o h = whole_motion s g x h
whole_by s g (step.Edit x) o h = whole_change s g x o h
whole_by s g (step.Set x) o h = whole_setting s g x h
whole_by s g step.Nothing o h = h

pub stays_whole : StaysWhole
stays_whole s g [] o h = h
stays_whole s g (x ∷ xs) o h =
    stays_whole s (grid_by s g x) xs (sound_by s g x o) (whole_by s g x o h)

pub first_rows : (l c n : ℕ) → AreWhole (replicate n (blank_row l c))
first_rows l c zero = omega arith
first_rows l c (suc n) = (whole_filled (blank l) c refl refl, first_rows l c n)

pub begins_whole : BeginsWhole
begins_whole s = record {
  rows = first_rows 0 s.columns s.rows;
  other = first_rows 0 s.columns s.rows;
}
