-- The effect of steps on one row of a screen, if the others stay.
use Rattle.std.proofs.Common.{ℕ, ◌≡◌, ◌+◌, ◌-◌, ◌<◌, ◌≤◌, min, nat_lt, Bool, true, false, not, ◌&&◌, ◌||◌, inl, inr, List, [], ◌∷◌, ◌++◌, length, take, drop, set, get_or, replicate, if◌then◌else◌, refl, ap, sym, subst, ◌∙◌, append_assoc, append-nil, length-append, arith}
use Rattle.std.proofs.lemmas.Bool.{cases_Bool}
use Rattle.std.proofs.lemmas.Bool.Decides.{nat_tests}
use Rattle.std.proofs.lemmas.List.{drop-append-le, drop_all, get_or_at, get_or-append-add, get_or_past, length_push, set_at, take-append-le, take_all}
use Rattle.esc_screen.specs.Cells.{blank, cell, cleared_cells, cut_row, drawn_cell, erased_cells, inserted_cells, is_rest, mark_at, marked_cell, marked_cells, no_marks, cells_with, put_wide, start_of}
use Rattle.esc_screen.specs.Cursors.{draws}
use Rattle.esc_screen.specs.Grids.{Grid, Size, grid_at, in_row, next_line, settled_grid, with_cursor}
use Rattle.esc_screen.specs.Lists.{in_part}
use Rattle.esc_screen.specs.Motions.{row_by}
use Rattle.esc_screen.specs.Printing.{column_before, grid_past, grid_with_room, has_before, has_room, is_direct, row_gone_on, printed_wide, wide_put, wrapped_grid, wrapped_wide}
use Rattle.esc_screen.specs.Steps.{grid_by}
use Rattle.esc_screen.specs.declared.cell.Cell.{Cell}
use Rattle.esc_screen.specs.declared.content.Content.TheVariants as content
use Rattle.esc_screen.specs.declared.change.Change.TheVariants as change
use Rattle.esc_screen.specs.declared.cursor.Cursor.{Cursor}
use Rattle.esc_screen.specs.declared.motion.Motion.TheVariants as motion
use Rattle.esc_screen.specs.declared.setting.Setting.TheVariants as setting
use Rattle.esc_screen.specs.declared.step.Step.TheVariants as step
use Rattle.esc_screen.proofs.Printing.RunsOfCharacters.{not_wrapped, run_is}
use Rattle.esc_screen.proofs.Whole.RunWithoutWide.{cut_same}

-- ---- states

-- the cursor is in a row, past so many columns of it: if these are all, a wrap is pending
pub record IsPast (s : Size) (r n : ℕ) (c : Cursor) : Type 0 where
  pub row : c.row ≡ r
  pub column : c.column ≡ min n (s.columns - 1)
  pub pending : c.pending ≡ not (nat_lt n s.columns)

-- characters are shown as they are, look so, and wrap; cells that are erased look so
pub record Draws (l e : ℕ) (g : Grid) : Type 0 where
  pub direct : is_direct g ≡ true
  pub origin : g.cursor.origin ≡ false
  pub wraps : g.modes.wraps ≡ true
  pub look : g.cursor.look ≡ l
  pub erased : g.cursor.erased ≡ e

-- The row between others is this one; the cursor is past so many columns of it, if `here` says that
-- it is in the row.
pub record Has (s : Size) (above below : List (List Cell)) (l e : ℕ) (here : Bool) (n : ℕ)
    (xs : List Cell) (g : Grid) : Type 0 where
  pub within : length above < s.rows
  pub draws : Draws l e g
  pub rows : g.rows ≡ above ++ xs ∷ below
  pub cursor : here ≡ true → IsPast s (length above) n g.cursor

-- ---- a row in a grid

pub in_row_is : (f : List Cell → List Cell) (above below : List (List Cell)) (xs : List Cell)
    (g : Grid) → g.rows ≡ above ++ xs ∷ below → g.cursor.row ≡ length above
    → (in_row f g).rows ≡ above ++ f xs ∷ below
in_row_is f above below xs g rows row =
    ap (λ z. set z g.cursor.row (f (get_or z g.cursor.row []))) rows
    ∙ ap (λ r. set (above ++ xs ∷ below) r (f (get_or (above ++ xs ∷ below) r []))) row
    ∙ ap (λ z. set (above ++ xs ∷ below) (length above) (f z))
    (get_or_at above xs below [] (length above) refl)
    ∙ set_at above xs below (f xs) (length above) refl

-- ---- the place of the cursor

lands : (s : Size) (n : ℕ) (g : Grid) → g.cursor.pending ≡ false → g.modes.wraps ≡ true
    → g.cursor.column + n ≤ s.columns
    → IsPast s g.cursor.row (g.cursor.column + n) (grid_past s n g).cursor
lands s n g ready wraps fits =
    let m = g.cursor.column + n in
    let c = g.cursor in
    elim (cases_Bool (nat_lt m s.columns)) [
      | inl held ↦
          let less : m < s.columns = grind (arith, nat_tests) in
          let same : m ≡ min m (s.columns - 1) = omega arith in
          subst (IsPast s c.row m) (sym (ap (λ b. if b then record c { column = m }
          else record c {
            column = s.columns - 1;
            pending = g.modes.wraps;
          }) held)) (record {
            row = refl;
            column = same;
            pending = ready ∙ sym (ap not held);
          })
      | inr failed ↦
          let most : s.columns ≤ m = grind (arith, nat_tests) in
          let same : s.columns - 1 ≡ min m (s.columns - 1) = omega arith in
          subst (IsPast s c.row m) (sym (ap (λ b. if b then record c { column = m }
          else record c {
            column = s.columns - 1;
            pending = g.modes.wraps;
          }) failed)) (record {
            row = refl;
            column = same;
            pending = wraps ∙ sym (ap not failed);
          })
    ]

draws_if : (t : Bool) (l e : ℕ) (g : Grid) (c d : Cursor) → Draws l e (with_cursor c g)
    → Draws l e (with_cursor d g) → Draws l e (with_cursor (if t then c else d) g)
draws_if true l e g c d h k = h
draws_if false l e g c d h k = k

draws_past : (s : Size) (n l e : ℕ) (g : Grid) → Draws l e g → Draws l e (grid_past s n g)
draws_past s n l e g h = draws_if (nat_lt (g.cursor.column + n) s.columns) l e g _ _
    (record {
      direct = h.direct;
      origin = h.origin;
      wraps = h.wraps;
      look = h.look;
      erased = h.erased;
    })
    (record {
      direct = h.direct;
      origin = h.origin;
      wraps = h.wraps;
      look = h.look;
      erased = h.erased;
    })

rows_past : (s : Size) (n : ℕ) (g : Grid) → (grid_past s n g).rows ≡ g.rows
rows_past s n g = refl

draws_in_row : (f : List Cell → List Cell) (l e : ℕ) (g : Grid) → Draws l e g
    → Draws l e (in_row f g)
draws_in_row f l e g h = record {
  direct = h.direct;
  origin = h.origin;
  wraps = h.wraps;
  look = h.look;
  erased = h.erased;
}

-- a cursor past fewer columns than there are
pub before_last : (s : Size) (r n : ℕ) (c : Cursor) → IsPast s r n c → n < s.columns
    → (c.column ≡ n) × (c.pending ≡ false)
before_last s r n c h less =
    let test : nat_lt n s.columns ≡ true = grind (arith, nat_tests) in
    let same : min n (s.columns - 1) ≡ n = omega arith in
    (h.column ∙ same, h.pending ∙ ap not test)

-- ---- CUP

draws_at : (r n l e : ℕ) (g : Grid) → Draws l e g → Draws l e (grid_at r n g)
draws_at r n l e g h = record {
  direct = h.direct;
  origin = h.origin;
  wraps = h.wraps;
  look = h.look;
  erased = h.erased;
}

pub positioned : (s : Size) (r n : ℕ) (g : Grid) → g.cursor.origin ≡ false → r < s.rows
    → n < s.columns
    → grid_by s g (step.Move (motion.Position r n)) ≡ grid_at r n g
positioned s r n g origin below before =
    let to : row_by s r g ≡ r =
    ap (λ b. if b then min (g.top + r) (g.bottom - 1) else min r (s.rows - 1)) origin
    ∙ omega (arith, below) in
    let start : min n (s.columns - 1) ≡ n = omega arith in
    ap (λ i. grid_at i (min n (s.columns - 1)) g) to ∙ ap (λ i. grid_at r i g) start

pub has_at : (s : Size) (above below : List (List Cell)) (l e : ℕ) (b : Bool) (m n : ℕ)
    (xs : List Cell) (g : Grid) → Has s above below l e b m xs g → n < s.columns
    → Has s above below l e true n xs (grid_by s g (step.Move (motion.Position (length above) n)))
has_at s above below l e b m n xs g h less =
    let same : n ≡ min n (s.columns - 1) = omega arith in
    let test : nat_lt n s.columns ≡ true = grind (arith, nat_tests) in
    subst (Has s above below l e true n xs)
    (sym (positioned s (length above) n g h.draws.origin h.within less)) (record {
      within = h.within;
      draws = draws_at (length above) n l e g h.draws;
      rows = h.rows;
      cursor = λ t. record {
        row = refl;
        column = same;
        pending = sym (ap not test);
      };
    })

-- ---- characters

-- none of these cells begins with the second column of a character
abbrev pub begins_free : List Cell → Bool
begins_free xs = not (is_rest (get_or xs 0 (blank 0)))

not_rest : (b : Bool) → not b ≡ true → b ≡ false
not_rest true h = sym h
not_rest false h = refl

free_at : (p ys : List Cell) (n : ℕ) → length p ≡ n → begins_free ys ≡ true
    → is_rest (get_or (p ++ ys) n (blank 0)) ≡ false
free_at p ys n e h =
    let zero_more : length p + 0 ≡ n = omega arith in
    ap (λ k. is_rest (get_or (p ++ ys) k (blank 0))) (sym zero_more)
    ∙ ap is_rest (get_or-append-add p ys 0 (blank 0)) ∙ not_rest _ h

pub put_is : (n l c : ℕ) (p ys : List Cell) (x : Cell) → length p ≡ n → is_rest x ≡ false
    → begins_free ys ≡ true → cells_with n l c (p ++ x ∷ ys) ≡ p ++ drawn_cell l c ∷ ys
put_is n l c p ys x e here next =
    let xs = p ++ x ∷ ys in
    let first : is_rest (get_or xs n (blank 0)) ≡ false = free_at p (x ∷ ys) n e (ap not here) in
    let q = p ++ x ∷ [] in
    let len : length q ≡ n + 1 = length_push p x ∙ ap (λ k. k + 1) e in
    let second : is_rest (get_or xs (n + 1) (blank 0)) ≡ false =
    ap (λ z. is_rest (get_or z (n + 1) (blank 0))) (sym (append_assoc p (x ∷ []) ys))
    ∙ free_at q ys (n + 1) len next in
    ap (λ z. set (cut_row (n + 1) z) n (drawn_cell l c)) (cut_same n xs first)
    ∙ ap (λ z. set z n (drawn_cell l c)) (cut_same (n + 1) xs second)
    ∙ set_at p x ys (drawn_cell l c) n e

pub put_wide_is : (n l c : ℕ) (p ys : List Cell) (x y : Cell) → length p ≡ n → is_rest x ≡ false
    → begins_free ys ≡ true
    → put_wide n l c (p ++ x ∷ y ∷ ys)
    ≡ p ++ cell (content.Wide c no_marks) l ∷ cell content.Rest l ∷ ys
put_wide_is n l c p ys x y e here next =
    let xs = p ++ x ∷ y ∷ ys in
    let w = cell (content.Wide c no_marks) l in
    let r = cell content.Rest l in
    let first : is_rest (get_or xs n (blank 0)) ≡ false =
    free_at p (x ∷ y ∷ ys) n e (ap not here) in
    let q = p ++ x ∷ y ∷ [] in
    let len : length q ≡ n + 2 = length-append p (x ∷ y ∷ []) ∙ omega arith in
    let second : is_rest (get_or xs (n + 2) (blank 0)) ≡ false =
    ap (λ z. is_rest (get_or z (n + 2) (blank 0))) (sym (append_assoc p (x ∷ y ∷ []) ys))
    ∙ free_at q ys (n + 2) len next in
    let one : length (p ++ w ∷ []) ≡ n + 1 = length_push p w ∙ ap (λ k. k + 1) e in
    ap (λ z. set (set (cut_row (n + 2) z) n w) (n + 1) r) (cut_same n xs first)
    ∙ ap (λ z. set (set z n w) (n + 1) r) (cut_same (n + 2) xs second)
    ∙ ap (λ z. set z (n + 1) r) (set_at p x (y ∷ ys) w n e)
    ∙ ap (λ z. set z (n + 1) r) (sym (append_assoc p (w ∷ []) (y ∷ ys)))
    ∙ set_at (p ++ w ∷ []) y ys r (n + 1) one
    ∙ append_assoc p (w ∷ []) (r ∷ ys)

-- one of one column
pub has_narrow : (s : Size) (above below : List (List Cell)) (l e c : ℕ) (p ys : List Cell)
    (x : Cell) (g : Grid) → Has s above below l e true (length p) (p ++ x ∷ ys) g
    → length p < s.columns → is_rest x ≡ false → begins_free ys ≡ true
    → Has s above below l e true (length p + 1) (p ++ drawn_cell l c ∷ ys)
    (grid_by s g (step.Print c))
has_narrow s above below l e c p ys x g h less here next =
    let n = length p in
    let k = h.cursor refl in
    let m = before_last s (length above) n g.cursor k less in
    let fits : g.cursor.column + 1 ≤ s.columns = omega (arith, m.0) in
    let f = cells_with g.cursor.column g.cursor.look c in
    let is : grid_by s g (step.Print c) ≡ grid_past s 1 (in_row f g) =
    run_is s (c ∷ []) g m.1 h.draws.direct (omega arith) fits in
    let row : f (p ++ x ∷ ys) ≡ p ++ drawn_cell l c ∷ ys =
    ap (λ i. cells_with i g.cursor.look c (p ++ x ∷ ys)) m.0
    ∙ ap (λ i. cells_with n i c (p ++ x ∷ ys)) h.draws.look ∙ put_is n l c p ys x refl here next in
    let at = lands s 1 (in_row f g) m.1 h.draws.wraps fits in
    let place = (grid_past s 1 (in_row f g)).cursor in
    subst (Has s above below l e true (n + 1) (p ++ drawn_cell l c ∷ ys)) (sym is) (record {
      within = h.within;
      draws = draws_past s 1 l e (in_row f g) (draws_in_row f l e g h.draws);
      rows = in_row_is f above below (p ++ x ∷ ys) g h.rows k.row
          ∙ ap (λ z. above ++ z ∷ below) row;
      cursor = λ t. subst (λ i. IsPast s (length above) (i + 1) place) m.0
          (subst (λ i. IsPast s i (g.cursor.column + 1) place) k.row at);
    })

inserts_not : (a b : Bool) → not a && b ≡ true → a ≡ false
inserts_not true b h = sym h
inserts_not false b h = refl

wide_direct : (s : Size) (c : ℕ) (g : Grid) → g.cursor.pending ≡ false → is_direct g ≡ true
    → g.cursor.column + 1 < s.columns
    → grid_by s g (step.PrintWide c) ≡ printed_wide s c g
wide_direct s c g ready direct less =
    let some : nat_lt 1 s.columns ≡ true = grind (arith, nat_tests) in
    let more : nat_lt (g.cursor.column + 1) s.columns ≡ true = grind (arith, nat_tests) in
    let either : (a b : Bool) → a ≡ true → (b || a) ≡ true = any in
    let room : has_room s g ≡ true =
    ap (λ b. b && (g.modes.wraps || nat_lt (g.cursor.column + 1) s.columns)) some
    ∙ either (nat_lt (g.cursor.column + 1) s.columns) g.modes.wraps more in
    let wrapped : wrapped_wide s g ≡ g =
    ap (λ b. if b then wrapped_grid s g else next_line s (row_gone_on g)) more ∙ not_wrapped s g
    ready in
    let roomy : grid_with_room s 2 g ≡ g =
    ap (λ b. if b then in_row (inserted_cells g.cursor.erased 2 g.cursor.column s.columns) g else g)
    (inserts_not g.modes.inserts (not (draws g.cursor)) direct) in
    ap (λ b. if b then wide_put s c g else g) room
    ∙ ap (λ z. printed_wide s c (grid_with_room s 2 z)) wrapped
    ∙ ap (printed_wide s c) roomy
  where
    any : (a b : Bool) → a ≡ true → (b || a) ≡ true
    any a true h = refl
    any a false h = h

-- one of two columns
pub has_wide : (s : Size) (above below : List (List Cell)) (l e c : ℕ) (p ys : List Cell)
    (x y : Cell) (g : Grid) → Has s above below l e true (length p) (p ++ x ∷ y ∷ ys) g
    → length p + 1 < s.columns → is_rest x ≡ false → begins_free ys ≡ true
    → Has s above below l e true (length p + 2)
    (p ++ cell (content.Wide c no_marks) l ∷ cell content.Rest l ∷ ys)
    (grid_by s g (step.PrintWide c))
has_wide s above below l e c p ys x y g h less here next =
    let n = length p in
    let xs = p ++ x ∷ y ∷ ys in
    let zs = p ++ cell (content.Wide c no_marks) l ∷ cell content.Rest l ∷ ys in
    let k = h.cursor refl in
    let m = before_last s (length above) n g.cursor k (omega arith) in
    let fits : g.cursor.column + 2 ≤ s.columns = omega (arith, m.0) in
    let f = put_wide g.cursor.column g.cursor.look c in
    let is : grid_by s g (step.PrintWide c) ≡ grid_past s 2 (in_row f g) =
    wide_direct s c g m.1 h.draws.direct (omega (arith, m.0)) in
    let row : f xs ≡ zs =
    ap (λ i. put_wide i g.cursor.look c xs) m.0
    ∙ ap (λ i. put_wide n i c xs) h.draws.look ∙ put_wide_is n l c p ys x y refl here next in
    let at = lands s 2 (in_row f g) m.1 h.draws.wraps fits in
    let place = (grid_past s 2 (in_row f g)).cursor in
    subst (Has s above below l e true (n + 2) zs) (sym is) (record {
      within = h.within;
      draws = draws_past s 2 l e (in_row f g) (draws_in_row f l e g h.draws);
      rows = in_row_is f above below xs g h.rows k.row ∙ ap (λ z. above ++ z ∷ below) row;
      cursor = λ t. subst (λ i. IsPast s (length above) (i + 2) place) m.0
          (subst (λ i. IsPast s i (g.cursor.column + 2) place) k.row at);
    })

-- ---- marks

past_before : (s : Size) (r n : ℕ) (g : Grid) → IsPast s r (n + 1) g.cursor → n < s.columns
    → (has_before g ≡ true) × (column_before g ≡ n)
past_before s r n g h less =
    elim (cases_Bool (nat_lt (n + 1) s.columns)) [
      | inl held ↦
          let fewer : n + 1 < s.columns = grind (arith, nat_tests) in
          let none : g.cursor.pending ≡ false = h.pending ∙ ap not held in
          let column : g.cursor.column ≡ n + 1 = h.column ∙ omega arith in
          let some : nat_lt 0 g.cursor.column ≡ true = grind (arith, nat_tests) in (
            ap (λ b. b || nat_lt 0 g.cursor.column) none ∙ some,
            ap (λ b. if b then g.cursor.column else g.cursor.column - 1) none ∙ omega arith,
          )
      | inr failed ↦
          let last : s.columns ≤ n + 1 = grind (arith, nat_tests) in
          let waits : g.cursor.pending ≡ true = h.pending ∙ ap not failed in
          let column : g.cursor.column ≡ n = h.column ∙ omega arith in (
            ap (λ b. b || nat_lt 0 g.cursor.column) waits,
            ap (λ b. if b then g.cursor.column else g.cursor.column - 1) waits ∙ column,
          )
    ]

-- on the character that begins in a column, if the cursor comes after it
pub has_mark : (s : Size) (above below : List (List Cell)) (l e c m : ℕ) (p ys : List Cell)
    (x : Cell) (g : Grid) → Has s above below l e true (m + 1) (p ++ x ∷ ys) g
    → m < s.columns → start_of m (p ++ x ∷ ys) ≡ length p
    → Has s above below l e true (m + 1) (p ++ marked_cell c x ∷ ys) (grid_by s g (step.Mark c))
has_mark s above below l e c m p ys x g h less start =
    let k = h.cursor refl in
    let b = past_before s (length above) m g k less in
    let f = marked_cells (column_before g) c in
    let xs = p ++ x ∷ ys in
    let is : grid_by s g (step.Mark c) ≡ in_row f g = ap (λ t. if t then in_row f g else g) b.0 in
    let row : f xs ≡ p ++ marked_cell c x ∷ ys =
    ap (λ i. marked_cells i c xs) b.1 ∙ ap (λ i. mark_at i c xs) start
    ∙ ap (λ z. set xs (length p) (marked_cell c z)) (get_or_at p x ys (blank 0) (length p) refl)
    ∙ set_at p x ys (marked_cell c x) (length p) refl in
    subst (Has s above below l e true (m + 1) (p ++ marked_cell c x ∷ ys)) (sym is) (record {
      within = h.within;
      draws = draws_in_row f l e g h.draws;
      rows = in_row_is f above below xs g h.rows k.row ∙ ap (λ z. above ++ z ∷ below) row;
      cursor = h.cursor;
    })

-- ---- EL

erased_is : (e m n : ℕ) (p ys : List Cell) → length p ≡ m → m + length ys ≡ n
    → begins_free ys ≡ true
    → erased_cells e m n (p ++ ys) ≡ p ++ replicate (length ys) (blank e)
erased_is e m n p ys len all here =
    let xs = p ++ ys in
    let whole : length xs ≡ n = length-append p ys ∙ omega (arith, len, all) in
    let first = cut_same m xs (free_at p ys m len here) in
    let last : is_rest (get_or xs n (blank 0)) ≡ false =
    ap is_rest (get_or_past xs n (blank 0) (omega (arith, whole))) in
    let rest : n - m ≡ length ys = omega (arith, all) in
    let at : m ≤ length p = omega (arith, len) in
    let before : take m xs ≡ p = take-append-le m p ys at ∙ take_all m p (omega (arith, len)) in
    let after : drop m xs ≡ ys = drop-append-le m p ys at
    ∙ ap (λ z. z ++ ys) (drop_all m p (omega (arith, len))) in
    let parts : in_part m n (cleared_cells e) xs ≡ p ++ replicate (length ys) (blank e) =
    ap (λ z. z ++ (cleared_cells e (take (n - m) (drop m xs)) ++ drop (n - m) (drop m xs))) before
    ∙ ap (λ z. p ++ (cleared_cells e (take (n - m) z) ++ drop (n - m) z)) after
    ∙ ap (λ k. p ++ (cleared_cells e (take k ys) ++ drop k ys)) rest
    ∙ ap (λ z. p ++ (cleared_cells e z ++ drop (length ys) ys))
    (take_all (length ys) ys (omega arith))
    ∙ ap (λ z. p ++ (cleared_cells e ys ++ z)) (drop_all (length ys) ys (omega arith))
    ∙ ap (λ z. p ++ z) (append-nil (cleared_cells e ys)) in
    ap (λ z. in_part m n (cleared_cells e) (cut_row n z)) first
    ∙ ap (in_part m n (cleared_cells e)) (cut_same n xs last) ∙ parts

pub has_erased : (s : Size) (above below : List (List Cell)) (l e : ℕ) (p ys : List Cell)
    (g : Grid) → Has s above below l e true (length p) (p ++ ys) g → length p < s.columns
    → length p + length ys ≡ s.columns → begins_free ys ≡ true
    → Has s above below l e true (length p) (p ++ replicate (length ys) (blank e))
    (grid_by s g (step.Edit change.EraseRight))
has_erased s above below l e p ys g h less all here =
    let n = length p in
    let xs = p ++ ys in
    let zs = p ++ replicate (length ys) (blank e) in
    let k = h.cursor refl in
    let m = before_last s (length above) n g.cursor k less in
    let f = erased_cells g.cursor.erased g.cursor.column s.columns in
    let row : f xs ≡ zs =
    ap (λ i. erased_cells g.cursor.erased i s.columns xs) m.0
    ∙ ap (λ i. erased_cells i n s.columns xs) h.draws.erased
    ∙ erased_is e n s.columns p ys refl all here in
    record {
      within = h.within;
      draws = draws_in_row f l e (settled_grid g)
          (draws_at g.cursor.row g.cursor.column l e g h.draws);
      rows = in_row_is f above below xs (settled_grid g) h.rows k.row
          ∙ ap (λ z. above ++ z ∷ below) row;
      cursor = λ t. record {
        row = k.row;
        column = k.column;
        pending = sym m.1 ∙ k.pending;
      };
    }

-- ---- SGR

pub has_selected : (s : Size) (above below : List (List Cell)) (l e : ℕ) (b : Bool) (n : ℕ)
    (xs : List Cell) (g : Grid) (i j : ℕ) → Has s above below l e b n xs g
    → Has s above below i j b n xs (grid_by s g (step.Set (setting.Select i j)))
has_selected s above below l e b n xs g i j h = record {
  within = h.within;
  draws = record {
    direct = h.draws.direct;
    origin = h.draws.origin;
    wraps = h.draws.wraps;
    look = refl;
    erased = refl;
  };
  rows = h.rows;
  cursor = λ t. record {
    row = (h.cursor t).row;
    column = (h.cursor t).column;
    pending = (h.cursor t).pending;
  };
}
