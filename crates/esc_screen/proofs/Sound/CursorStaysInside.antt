-- No step makes a grid that a screen cannot have: what does not move the cursor off the screen.
use Rattle.std.proofs.Common.{ℕ, suc, zero, ◌≡◌, ◌+◌, ◌-◌, ◌<◌, ◌≤◌, max, Bool, true, false, List, [], ◌∷◌, ◌++◌, length, map, set, take, drop, get_or, if◌then◌else◌, refl, ap, sym, ◌∙◌, length-append, arith}
use Rattle.std.proofs.lemmas.List.{length-map, length-replicate, length-set, take-append-drop}
use Rattle.esc_screen.specs.Lists.{in_part, moved_down, moved_up}
use Rattle.esc_screen.specs.Cells.{blank, cleared_cells, cut_row, deleted_cells, emptied_cells, erased_cells, filled_cells, filled_part, inserted_cells, is_rest, marked_cells, cells_with, put_wide, shifted_cells, start_of}
use Rattle.esc_screen.specs.Changes.{columns_moved}
use Rattle.esc_screen.specs.Cursors.{at}
use Rattle.esc_screen.specs.Grids.{Grid, Size, in_row, in_rows, grid_at, rows_down, rows_erased, rows_up, with_cursor, with_margins, with_rows}
use Rattle.esc_screen.specs.Sound.{AreWide, IsFull, IsOn, IsSound}
use Rattle.esc_screen.specs.declared.cell.Cell.{Cell}
use Rattle.esc_screen.specs.declared.cursor.Cursor.{Cursor}

-- ---- lengths

if_same : {X : Type 0} (f : X → ℕ) (n : ℕ) (b : Bool) (x y : X) → f x ≡ n → f y ≡ n
    → f (if b then x else y) ≡ n
if_same f n true x y e h = e
if_same f n false x y e h = h

pub length_cut : (n : ℕ) (xs : List Cell) → length (cut_row n xs) ≡ length xs
length_cut n xs = if_same length (length xs) (is_rest (get_or xs n (blank 0)))
    (emptied_cells n (emptied_cells (n - 1) xs)) xs
    (length-set (emptied_cells (n - 1) xs) n _ ∙ length-set xs (n - 1) _) refl

pub length_put : (n l c : ℕ) (xs : List Cell) → length (cells_with n l c xs) ≡ length xs
length_put n l c xs = length-set (cut_row (n + 1) (cut_row n xs)) n _
    ∙ length_cut (n + 1) (cut_row n xs)
    ∙ length_cut n xs

pub length_put_wide : (n l c : ℕ) (xs : List Cell) → length (put_wide n l c xs) ≡ length xs
length_put_wide n l c xs = length-set (set (cut_row (n + 2) (cut_row n xs)) n _) (n + 1) _
    ∙ length-set (cut_row (n + 2) (cut_row n xs)) n _ ∙ length_cut (n + 2) (cut_row n xs)
    ∙ length_cut n xs

pub length_marked : (n c : ℕ) (xs : List Cell) → length (marked_cells n c xs) ≡ length xs
length_marked n c xs = length-set xs (start_of n xs) _

length_part : {X : Type 0} (m n : ℕ) (f : List X → List X) (xs : List X)
    → ((ys : List X) → length (f ys) ≡ length ys) → length (in_part m n f xs) ≡ length xs
length_part m n f xs h =
    let a = take (n - m) (drop m xs) in
    let b = drop (n - m) (drop m xs) in
    length-append (take m xs) (f a ++ b)
    ∙ ap (λ k. length (take m xs) + k) (length-append (f a) b ∙ ap (λ k. k + length b) (h a)
    ∙ sym (length-append a b) ∙ ap length (take-append-drop (n - m) (drop m xs)))
    ∙ sym (length-append (take m xs) (drop m xs)) ∙ ap length (take-append-drop m xs)

swapped_sum : (a b : ℕ) → a + b ≡ b + a
swapped_sum a b = omega arith

length_up : {X : Type 0} (n : ℕ) (f : List X → List X) (xs : List X)
    → ((ys : List X) → length (f ys) ≡ length ys) → length (moved_up n f xs) ≡ length xs
length_up n f xs h =
    length-append (drop n xs) (f (take n xs))
    ∙ ap (λ k. length (drop n xs) + k) (h (take n xs))
    ∙ swapped_sum (length (drop n xs)) (length (take n xs))
    ∙ sym (length-append (take n xs) (drop n xs)) ∙ ap length (take-append-drop n xs)

length_down : {X : Type 0} (n : ℕ) (f : List X → List X) (xs : List X)
    → ((ys : List X) → length (f ys) ≡ length ys) → length (moved_down n f xs) ≡ length xs
length_down n f xs h =
    let k = length xs - n in
    length-append (f (drop k xs)) (take k xs)
    ∙ ap (λ m. m + length (take k xs)) (h (drop k xs))
    ∙ swapped_sum (length (drop k xs)) (length (take k xs))
    ∙ sym (length-append (take k xs) (drop k xs)) ∙ ap length (take-append-drop k xs)

pub length_filled : (x : Cell) (xs : List Cell) → length (filled_cells x xs) ≡ length xs
length_filled x xs = length-replicate (length xs) x

length_cleared : (l : ℕ) (xs : List Cell) → length (cleared_cells l xs) ≡ length xs
length_cleared l xs = length_filled (blank l) xs

pub length_erased : (l m n : ℕ) (xs : List Cell) → length (erased_cells l m n xs) ≡ length xs
length_erased l m n xs = length_part m n (cleared_cells l) (cut_row n (cut_row m xs))
    (length_cleared l)
    ∙ length_cut n (cut_row m xs) ∙ length_cut m xs

pub length_filled_part : (x : Cell) (m n : ℕ) (xs : List Cell)
    → length (filled_part x m n xs) ≡ length xs
length_filled_part x m n xs = length_part m n (filled_cells x) (cut_row n (cut_row m xs))
    (length_filled x)
    ∙ length_cut n (cut_row m xs) ∙ length_cut m xs

pub length_deleted : (l k m n : ℕ) (xs : List Cell) → length (deleted_cells l k m n xs) ≡ length xs
length_deleted l k m n xs =
    length_part m n (moved_up k (cleared_cells l)) (cut_row (m + k) (cut_row m xs))
    (λ ys. length_up k (cleared_cells l) ys (length_cleared l))
    ∙ length_cut (m + k) (cut_row m xs) ∙ length_cut m xs

pub length_inserted : (l k m n : ℕ) (xs : List Cell) → length (inserted_cells l k m n xs)
    ≡ length xs
length_inserted l k m n xs =
    length_part m n (moved_down k (cleared_cells l)) (cut_row (max m (n - k)) (cut_row m xs))
    (λ ys. length_down k (cleared_cells l) ys (length_cleared l))
    ∙ length_cut (max m (n - k)) (cut_row m xs) ∙ length_cut m xs

length_shifted : (more : Bool) (l k m n : ℕ) (xs : List Cell)
    → length (shifted_cells more l k m n xs) ≡ length xs
length_shifted more l k m n xs =
    if_same length (length xs) more _ _ (length_inserted l k m n xs) (length_deleted l k m n xs)

-- ---- widths

pub wide_append : (n : ℕ) (xs ys : List (List Cell)) → AreWide n xs → AreWide n ys
    → AreWide n (xs ++ ys)
wide_append n [] ys h k = k
wide_append n (x ∷ xs) ys h k = (h.0, wide_append n xs ys h.1 k)

pub wide_take : (n k : ℕ) (xs : List (List Cell)) → AreWide n xs → AreWide n (take k xs)
wide_take n zero xs h = omega arith
wide_take n (suc k) [] h = omega arith
wide_take n (suc k) (x ∷ xs) h = (h.0, wide_take n k xs h.1)

pub wide_drop : (n k : ℕ) (xs : List (List Cell)) → AreWide n xs → AreWide n (drop k xs)
wide_drop n zero xs h = h
wide_drop n (suc k) [] h = omega arith
wide_drop n (suc k) (x ∷ xs) h = wide_drop n k xs h.1

wide_each : (n : ℕ) (f : List Cell → List Cell) (xs : List (List Cell))
    → ((ys : List Cell) → length (f ys) ≡ length ys) → AreWide n xs → AreWide n (map f xs)
wide_each n f [] e h = h
wide_each n f (y ∷ ys) e h = (e y ∙ h.0, wide_each n f ys e h.1)

-- a row that is changed and stays as long
wide_changed : (n r : ℕ) (f : List Cell → List Cell) (xs : List (List Cell))
    → ((ys : List Cell) → length (f ys) ≡ length ys) → AreWide n xs
    → AreWide n (set xs r (f (get_or xs r [])))
wide_changed n r f [] e h = h
wide_changed n zero f (x ∷ xs) e h = (e x ∙ h.0, h.1)
wide_changed n (suc r) f (x ∷ xs) e h = (h.0, wide_changed n r f xs e h.1)

-- a change of rows that leaves their number and width
pub record Keeps (n : ℕ) (f : List (List Cell) → List (List Cell)) : Type 0 where
  pub height : (ys : List (List Cell)) → length (f ys) ≡ length ys
  pub width : (ys : List (List Cell)) → AreWide n ys → AreWide n (f ys)

keeps_each : (n : ℕ) (f : List Cell → List Cell)
    → ((ys : List Cell) → length (f ys) ≡ length ys) → Keeps n (map f)
keeps_each n f e = record {
  height = λ ys. length-map ys f;
  width = λ ys w. wide_each n f ys e w;
}

pub keeps_filled : (n : ℕ) (x : Cell) → Keeps n (map (filled_cells x))
keeps_filled n x = keeps_each n (filled_cells x) (length_filled x)

keeps_up : (n k : ℕ) (f : List (List Cell) → List (List Cell)) → Keeps n f
    → Keeps n (moved_up k f)
keeps_up n k f h = record {
  height = λ ys. length_up k f ys h.height;
  width = λ ys w. wide_append n (drop k ys) (f (take k ys)) (wide_drop n k ys w)
      (h.width (take k ys) (wide_take n k ys w));
}

keeps_down : (n k : ℕ) (f : List (List Cell) → List (List Cell)) → Keeps n f
    → Keeps n (moved_down k f)
keeps_down n k f h = record {
  height = λ ys. length_down k f ys h.height;
  width = λ ys w. wide_append n (f (drop (length ys - k) ys)) (take (length ys - k) ys)
      (h.width (drop (length ys - k) ys) (wide_drop n (length ys - k) ys w))
      (wide_take n (length ys - k) ys w);
}

keeps_part : (c m n : ℕ) (f : List (List Cell) → List (List Cell)) → Keeps c f
    → Keeps c (in_part m n f)
keeps_part c m n f h = record {
  height = λ rs. length_part m n f rs h.height;
  width = λ rs w. wide_append c (take m rs) _ (wide_take c m rs w)
      (wide_append c (f (take (n - m) (drop m rs))) _
      (h.width _ (wide_take c (n - m) (drop m rs) (wide_drop c m rs w)))
      (wide_drop c (n - m) (drop m rs) (wide_drop c m rs w)));
}

-- ---- grids

with_full : (s : Size) (g : Grid) (rs : List (List Cell)) → IsSound s g → IsFull s rs
    → IsSound s (with_rows rs g)
with_full s g rs h f = record {
  rows = f;
  other = h.other;
  cursor = h.cursor;
  saved = h.saved;
  other_saved = h.other_saved;
  margins = h.margins;
  tabs = h.tabs;
}

pub with_on : (s : Size) (g : Grid) (c : Cursor) → IsSound s g → IsOn s c
    → IsSound s (with_cursor c g)
with_on s g c h o = record {
  rows = h.rows;
  other = h.other;
  cursor = o;
  saved = h.saved;
  other_saved = h.other_saved;
  margins = h.margins;
  tabs = h.tabs;
}

pub with_scrolling : (s : Size) (g : Grid) (m n : ℕ) → IsSound s g → m < n → n ≤ s.rows
    → IsSound s (with_margins m n g)
with_scrolling s g m n h some within = record {
  rows = h.rows;
  other = h.other;
  cursor = h.cursor;
  saved = h.saved;
  other_saved = h.other_saved;
  margins = (some, within);
  tabs = h.tabs;
}

pub sound_rows : (s : Size) (g : Grid) (f : List (List Cell) → List (List Cell))
    → Keeps s.columns f → IsSound s g → IsSound s (with_rows (f g.rows) g)
sound_rows s g f k h = with_full s g (f g.rows) h (record {
  height = k.height g.rows ∙ h.rows.height;
  width = k.width g.rows h.rows.width;
})

pub sound_moved : (s : Size) (g : Grid) (r n : ℕ) → IsSound s g → r < s.rows → n < s.columns
    → IsSound s (grid_at r n g)
sound_moved s g r n h row column = with_on s g (at r n g.cursor) h (record {
  row = row;
  column = column;
})

pub sound_in_row : (s : Size) (g : Grid) (f : List Cell → List Cell)
    → ((ys : List Cell) → length (f ys) ≡ length ys) → IsSound s g → IsSound s (in_row f g)
sound_in_row s g f e h = with_full s g _ h (record {
  height = length-set g.rows g.cursor.row _ ∙ h.rows.height;
  width = wide_changed s.columns g.cursor.row f g.rows e h.rows.width;
})

pub sound_erased : (s : Size) (g : Grid) (m n : ℕ) → IsSound s g → IsSound s (rows_erased m n g)
sound_erased s g m n h = sound_rows s g (in_part m n (map (cleared_cells g.cursor.erased)))
    (keeps_part s.columns m n _ (keeps_filled s.columns (blank g.cursor.erased))) h

pub sound_up : (s : Size) (g : Grid) (k m n : ℕ) → IsSound s g → IsSound s (rows_up k m n g)
sound_up s g k m n h =
    sound_rows s g (in_part m n (moved_up k (map (cleared_cells g.cursor.erased))))
    (keeps_part s.columns m n _ (keeps_up s.columns k _
    (keeps_filled s.columns (blank g.cursor.erased)))) h

pub sound_down : (s : Size) (g : Grid) (k m n : ℕ) → IsSound s g → IsSound s (rows_down k m n g)
sound_down s g k m n h =
    sound_rows s g (in_part m n (moved_down k (map (cleared_cells g.cursor.erased))))
    (keeps_part s.columns m n _ (keeps_down s.columns k _
    (keeps_filled s.columns (blank g.cursor.erased)))) h

pub sound_columns : (s : Size) (g : Grid) (more : Bool) (n c : ℕ) → IsSound s g
    → IsSound s (columns_moved s more n c g)
sound_columns s g more n c h =
    let e = g.cursor.erased in
    sound_rows s g (in_part g.top g.bottom (map (shifted_cells more e n c s.columns)))
    (keeps_part s.columns g.top g.bottom _
    (keeps_each s.columns (shifted_cells more e n c s.columns)
    (length_shifted more e n c s.columns))) h

pub sound_filled_part : (s : Size) (g : Grid) (x : Cell) (m n a b : ℕ) → IsSound s g
    → IsSound s (in_rows m n (map (filled_part x a b)) g)
sound_filled_part s g x m n a b h =
    sound_rows s g (in_part m n (map (filled_part x a b)))
    (keeps_part s.columns m n _
    (keeps_each s.columns (filled_part x a b) (length_filled_part x a b))) h

pub sound_if : (s : Size) (b : Bool) (g h : Grid) → IsSound s g → IsSound s h
    → IsSound s (if b then g else h)
sound_if s true g h x y = x
sound_if s false g h x y = y

pub less_if : (b : Bool) (x y n : ℕ) → x < n → y < n → (if b then x else y) < n
less_if true x y n h k = h
less_if false x y n h k = k
