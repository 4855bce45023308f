-- Grids of another size.
use Rattle.std.proofs.Common.{ℕ, suc, zero, ◌≡◌, ◌+◌, ◌-◌, ◌<◌, ◌==◌, min, Bool, true, false, List, [], ◌∷◌, ◌++◌, length, take, drop, replicate, get_or, if◌then◌else◌, refl, ap, sym, subst, ◌∙◌, length-append, arith}
use Rattle.std.proofs.lemmas.Bool.{and_parts}
use Rattle.std.proofs.lemmas.Bool.Decides.{nat_tests}
use Rattle.std.proofs.lemmas.List.{get_or-drop, length-drop, length-map, length-replicate, length-take}
use Rattle.esc_screen.specs.Cells.{blank, blank_row, cut_row}
use Rattle.esc_screen.specs.Cursors.{eighths}
use Rattle.esc_screen.specs.Grids.{Grid, Size, row_of_cursor}
use Rattle.esc_screen.specs.Halves.{AreWhole, HasWholeRows}
use Rattle.esc_screen.specs.Resized.{KeepsLine, ResizesSound, ResizesWhole, cursor_within, fitted_grid, is_same_size, leaving_rows, refitted_grid, resized_each, resized_grid, resized_row, resized_rows, resized_tabs, rows_left}
use Rattle.esc_screen.specs.Sound.{AreWide, IsFull, IsOn, IsSound}
use Rattle.esc_screen.specs.declared.cell.Cell.{Cell}
use Rattle.esc_screen.specs.declared.cursor.Cursor.{Cursor}
use Rattle.esc_screen.proofs.Sound.CursorStaysInside.{length_cut, wide_append}
use Rattle.esc_screen.proofs.Sound.TabStops.{length_eighths}
use Rattle.esc_screen.proofs.Whole.GridsStayWhole.{first_rows, rows_append, rows_drop, rows_take}
use Rattle.esc_screen.proofs.Whole.RowsStayWhole.{same_resized, whole_resized}

-- ---- lengths

-- the first so many, and as many more as there are too few
length_fitted : {X : Type 0} (n : ℕ) (xs ys : List X) → length ys ≡ n - length xs
    → length (take n xs ++ ys) ≡ n
length_fitted n xs ys e =
    length-append (take n xs) ys ∙ omega (arith, length-take n xs, e)

pub length_row : (n : ℕ) (xs : List Cell) → length (resized_row n xs) ≡ n
length_row n xs =
    let len = length_cut n xs in
    length_fitted n (cut_row n xs) (blank_row 0 (n - length xs))
    (length-replicate (n - length xs) (blank 0) ∙ ap (λ k. n - k) (sym len))

length_rows : (m n : ℕ) (rs : List (List Cell)) → length (resized_rows m n rs) ≡ m
length_rows m n rs =
    length-append (resized_each n (take m rs)) _
    ∙ omega (
      arith,
      length-map (take m rs) (resized_row n),
      length-take m rs,
      length-replicate (m - length rs) (blank_row 0 n),
    )

length_tabs : (n : ℕ) (bs : List Bool) → length (resized_tabs n bs) ≡ n
length_tabs n bs = length_fitted n bs (eighths (length bs) (replicate (n - length bs) false))
    (length_eighths (length bs) (replicate (n - length bs) false)
    ∙ length-replicate (n - length bs) false)

wide_resized : (n : ℕ) (rs : List (List Cell)) → AreWide n (resized_each n rs)
wide_resized n [] = omega arith
wide_resized n (x ∷ xs) = (length_row n x, wide_resized n xs)

wide_blank : (n k : ℕ) → AreWide n (replicate k (blank_row 0 n))
wide_blank n zero = omega arith
wide_blank n (suc k) = (length-replicate n (blank 0), wide_blank n k)

-- ---- laws

full_left : (s : Size) (k : ℕ) (rs : List (List Cell)) → IsFull s (rows_left s k rs)
full_left s k rs = record {
  height = length_rows s.rows s.columns (drop k rs);
  width = wide_append s.columns (resized_each s.columns (take s.rows (drop k rs))) _
      (wide_resized s.columns (take s.rows (drop k rs)))
      (wide_blank s.columns (s.rows - length (drop k rs)));
}

on_within : (s : Size) (c : Cursor) → 0 < s.rows → 0 < s.columns
    → IsOn s (cursor_within s.rows s.columns c)
on_within s c rows columns = record {
  row = omega (arith, rows);
  column = omega (arith, columns);
}

sound_fitted : (t : Size) (g : Grid) → 0 < t.rows → 0 < t.columns → IsSound t (fitted_grid t g)
sound_fitted t g rows columns =
    let here = on_within t g.cursor rows columns in
    record {
      rows = full_left t (leaving_rows t.rows g) g.rows;
      other = full_left t (leaving_rows t.rows g) g.other;
      cursor = record {
        row = here.row;
        column = here.column;
      };
      saved = on_within t g.saved rows columns;
      other_saved = on_within t g.other_saved rows columns;
      margins = (rows, omega arith);
      tabs = length_tabs t.columns g.tabs;
    }

-- sound for one size, and so for one that is the same
sound_same : (s t : Size) (g : Grid) → t.rows ≡ s.rows → t.columns ≡ s.columns → IsSound s g
    → IsSound t g
sound_same s t g r n h = record {
  rows = full h.rows;
  other = full h.other;
  cursor = on g.cursor h.cursor;
  saved = on g.saved h.saved;
  other_saved = on g.other_saved h.other_saved;
  margins = (h.margins.0, omega (arith, h.margins.1, r));
  tabs = h.tabs ∙ sym n;
}
  where
    full : {rs : List (List Cell)} → IsFull s rs → IsFull t rs
    full {rs = rs} k = record {
      height = k.height ∙ sym r;
      width = subst (λ m. AreWide m rs) (sym n) k.width;
    }

    on : (c : Cursor) → IsOn s c → IsOn t c
    on c k = record {
      row = omega (arith, k.row, r);
      column = omega (arith, k.column, n);
    }

pub resizes_sound : ResizesSound
resizes_sound s t g rows columns h = by_test (is_same_size s t) refl
  where
    same : is_same_size s t ≡ true → IsSound t g
    same e =
        let q = and_parts (s.rows == t.rows) (s.columns == t.columns) e in
        let r : t.rows ≡ s.rows = grind (arith, nat_tests, q.0) in
        let n : t.columns ≡ s.columns = grind (arith, nat_tests, q.1) in
        sound_same s t g r n h

    by_test : (b : Bool) → is_same_size s t ≡ b → IsSound t (if b then g else fitted_grid t g)
    by_test true e = same e
    by_test false e = sound_fitted t g rows columns

whole_each : (n : ℕ) (rs : List (List Cell)) → AreWhole rs → AreWhole (resized_each n rs)
whole_each n [] h = omega arith
whole_each n (x ∷ xs) h = (whole_resized n x h.0, whole_each n xs h.1)

whole_left : (s : Size) (k : ℕ) (rs : List (List Cell)) → AreWhole rs → AreWhole (rows_left s k rs)
whole_left s k rs h =
    rows_append (resized_each s.columns (take s.rows (drop k rs))) _
    (whole_each s.columns (take s.rows (drop k rs)) (rows_take s.rows (drop k rs)
    (rows_drop k rs h)))
    (first_rows 0 s.columns (s.rows - length (drop k rs)))

pub resizes_whole : ResizesWhole
resizes_whole s t g h = by_test (is_same_size s t)
  where
    by_test : (b : Bool) → HasWholeRows (if b then g else fitted_grid t g)
    by_test true = h
    by_test false = record {
      rows = whole_left t (leaving_rows t.rows g) g.rows h.rows;
      other = whole_left t (leaving_rows t.rows g) g.other h.other;
    }

-- ---- the line of the cursor

-- one of the first rows, with so many columns
row_resized : (m n i : ℕ) (rs : List (List Cell)) → i < m → i < length rs
    → get_or (resized_rows m n rs) i [] ≡ resized_row n (get_or rs i [])
row_resized m n i [] less within = absurd (omega (arith, within))
row_resized zero n i (x ∷ rs) less within = absurd (omega (arith, less))
row_resized (suc m) n zero (x ∷ rs) less within = refl
row_resized (suc m) n (suc i) (x ∷ rs) less within =
    ap (λ k. get_or (resized_each n (take m rs) ++ replicate k (blank_row 0 n)) i [])
    (one m (length rs))
    ∙ row_resized m n i rs (omega (arith, less)) (omega (arith, within))
  where
    one : (m k : ℕ) → suc m - suc k ≡ m - k
    one m k = omega arith

line_fitted : (s t : Size) (g : Grid) → 0 < t.rows → IsSound s g
    → row_of_cursor (fitted_grid t g) ≡ resized_row t.columns (row_of_cursor g)
line_fitted s t g rows h =
    let k = leaving_rows t.rows g in
    let at = min g.cursor.row (t.rows - 1) in
    let there : k + at ≡ g.cursor.row = omega (arith, rows) in
    let less : at < t.rows = omega (arith, rows) in
    let within : at < length (drop k g.rows) =
    omega (arith, length-drop k g.rows, h.rows.height, h.cursor.row, there) in
    row_resized t.rows t.columns at (drop k g.rows) less within
    ∙ ap (resized_row t.columns) (get_or-drop k g.rows at [] ∙ ap (λ n. get_or g.rows n []) there)

width_of : (n i : ℕ) (rs : List (List Cell)) → AreWide n rs → i < length rs
    → length (get_or rs i []) ≡ n
width_of n i [] h less = absurd (omega (arith, less))
width_of n zero (x ∷ rs) h less = h.0
width_of n (suc i) (x ∷ rs) h less = width_of n i rs h.1 (omega (arith, less))

pub keeps_line : KeepsLine
keeps_line s t g rows h = by_test (is_same_size s t) refl
  where
    same : is_same_size s t ≡ true
        → row_of_cursor g ≡ resized_row t.columns (row_of_cursor g)
    same e =
        let q = and_parts (s.rows == t.rows) (s.columns == t.columns) e in
        let n : s.columns ≡ t.columns = grind (arith, nat_tests, q.1) in
        let less : g.cursor.row < length g.rows = omega (arith, h.rows.height, h.cursor.row) in
        sym (same_resized t.columns (row_of_cursor g)
        (width_of s.columns g.cursor.row g.rows h.rows.width less ∙ n))

    by_test : (b : Bool) → is_same_size s t ≡ b
        → row_of_cursor (if b then g else fitted_grid t g)
        ≡ resized_row t.columns (row_of_cursor g)
    by_test true e = same e
    by_test false e = line_fitted s t g rows h

-- ---- the rows of a screen that gets another size

pub refits : (s t : Size) (g h : Grid) (k : ℕ) (rs os : List (List Cell)) (ts : List Bool)
    → is_same_size s t ≡ false → k ≡ leaving_rows t.rows g → h ≡ refitted_grid t rs os ts g
    → rs ≡ rows_left t k g.rows → os ≡ rows_left t k g.other
    → ts ≡ resized_tabs t.columns g.tabs → h ≡ resized_grid s t g
refits s t g h k rs os ts other gone is seen hidden stops =
    is
    ∙ ap (λ xs. refitted_grid t xs os ts g) seen
    ∙ ap (λ xs. refitted_grid t (rows_left t k g.rows) xs ts g) hidden
    ∙ ap (λ bs. refitted_grid t (rows_left t k g.rows) (rows_left t k g.other) bs g) stops
    ∙ ap (λ n. refitted_grid t (rows_left t n g.rows) (rows_left t n g.other)
    (resized_tabs t.columns g.tabs) g) gone
    ∙ sym (ap (λ b. if b then g else fitted_grid t g) other)
