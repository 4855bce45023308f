-- A screen that is painted: its rows, and its cursor.
use Rattle.std.proofs.Common.{ℕ, zero, suc, ◌≡◌, ◌+◌, ◌-◌, ◌==◌, ◌<◌, ◌≤◌, min, nat_lt, Bool, true, false, not, ◌&&◌, List, [], ◌∷◌, ◌++◌, length, map, take, drop, replicate, get_or, if◌then◌else◌, refl, ap, sym, subst, ◌∙◌, append_assoc, append-nil, take-append-drop, arith}
use Rattle.std.proofs.lemmas.Bool.{true≢false}
use Rattle.std.proofs.lemmas.Bool.Decides.{nat_tests}
use Rattle.std.proofs.lemmas.List.{drop_all, drop_more, length-drop, length-map, length-take-le, length_push, map-append, take_all}
use Rattle.esc_style.specs.Looks.{plain_look}
use Rattle.esc_style.specs.declared.look.Look.{Look}
use Rattle.esc_sgr.specs.Sgr.{same_look}
use Rattle.esc_screen.specs.Cells.{blank, blank_row, cleared_cells, is_rest, is_rest_content}
use Rattle.esc_screen.specs.Grids.{Grid, Size, row_of_cursor}
use Rattle.esc_screen.specs.Halves.{AreWhole, GoOn, IsWhole, is_wide, is_wide_content}
use Rattle.esc_screen.specs.Lists.{in_part}
use Rattle.esc_screen.specs.Sound.{AreWide, IsFull, IsOn}
use Rattle.esc_screen.specs.Steps.{grid_by}
use Rattle.esc_screen.specs.declared.cell.Cell.{Cell}
use Rattle.esc_screen.specs.declared.content.Content.{Content}
use Rattle.esc_screen.specs.declared.content.Content.TheVariants as content
use Rattle.esc_screen.specs.declared.change.Change.TheVariants as change
use Rattle.esc_screen.specs.declared.motion.Motion.TheVariants as motion
use Rattle.esc_screen.specs.declared.setting.Setting.TheVariants as setting
use Rattle.esc_screen.specs.declared.step.Step.TheVariants as step
use Rattle.esc_terminal.specs.Looks.{erased_look}
use Rattle.esc_paint.specs.Parts.{Part, place}
use Rattle.esc_paint.specs.declared.pen.Pen.{Pen}
use Rattle.esc_paint.specs.Painting.{cursor_parts, ends_drawn, first_pen, is_blank_content, is_waiting, paint_parts, pen_by, row_again, row_parts, rows_parts}
use Rattle.esc_paint.specs.Drawn.{AllDrawn, AreDrawn}
use Rattle.esc_paint.proofs.Rows.{Draws, Has, begins_free, has_at, has_erased, positioned}
use Rattle.esc_paint.proofs.Painted.{cells_painted, painted_cell, painted_cells, pen_after, run, run_two}

-- ---- cells that are erased

take_none : {X : Type 0} (xs : List X) → take 0 xs ≡ []
take_none xs = refl

whole_part : {X : Type 0} (n : ℕ) (f : List X → List X) (xs : List X) → length xs ≡ n
    → in_part 0 n f xs ≡ f xs
whole_part n f xs e =
    let none : n - 0 ≡ n = omega arith in
    let all : length xs ≤ n = omega (arith, e) in
    ap (λ k. f (take k xs) ++ drop k xs) none
    ∙ ap (λ z. f z ++ drop n xs) (take_all n xs all)
    ∙ ap (λ z. f xs ++ z) (drop_all n xs all) ∙ append-nil (f xs)

all_blank : (n : ℕ) (xss : List (List Cell)) → AreWide n xss
    → map (cleared_cells 0) xss ≡ replicate (length xss) (blank_row 0 n)
all_blank n [] h = refl
all_blank n (xs ∷ xss) h = ap (λ k. blank_row 0 k ∷ map (cleared_cells 0) xss) h.0
    ∙ ap (λ z. blank_row 0 n ∷ z) (all_blank n xss h.1)

-- after DECSTR and ED 2
abbrev pub cleared : Size → Grid → Grid
cleared s g = grid_by s (grid_by s g (step.Set setting.SoftReset)) (step.Edit change.EraseAll)

cleared_rows : (s : Size) (g : Grid) → IsFull s g.rows
    → (cleared s g).rows ≡ replicate s.rows (blank_row 0 s.columns)
cleared_rows s g h =
    whole_part s.rows (map (cleared_cells 0)) g.rows h.height
    ∙ all_blank s.columns g.rows h.width
    ∙ ap (λ k. replicate k (blank_row 0 s.columns)) h.height

cleared_draws : (s : Size) (g : Grid) → Draws 0 0 (cleared s g)
cleared_draws s g = record {
  direct = refl;
  origin = refl;
  wraps = refl;
  look = refl;
  erased = refl;
}

-- ---- whether the cursor is past the last cell of a row

last_here : (c : Content) (l : Look) (w : Bool) (p : Pen) → is_rest_content c ≡ w
    → (w ≡ true → p.here ≡ true) → not (is_blank_content c) ≡ true
    → (pen_by p l c).here ≡ true
last_here content.Blank l w p go h e = absurd (true≢false (sym e))
last_here (content.Narrow c m) l w p go h e = refl
last_here (content.Wide c m) l w p go h e = refl
last_here content.Rest l w p go h e = h (sym go)

wide_here : (c : Content) (l : Look) (p : Pen) → is_wide_content c ≡ true
    → (pen_by p l c).here ≡ true
wide_here content.Blank l p e = absurd (true≢false (sym e))
wide_here (content.Narrow c m) l p e = absurd (true≢false (sym e))
wide_here (content.Wide c m) l p e = refl
wide_here content.Rest l p e = absurd (true≢false (sym e))

ends_more : (x y : Cell) (xs : List Cell) → ends_drawn (x ∷ y ∷ xs) ≡ ends_drawn (y ∷ xs)
ends_more x y xs =
    let one : length (x ∷ y ∷ xs) - 1 ≡ suc (length (y ∷ xs) - 1) = omega arith in
    ap (λ k. not (is_blank_content (get_or (x ∷ y ∷ xs) k (blank 0)).content)) one

-- ---- the cells that are painted, if looks have these numbers

module _ (number : Look → ℕ) (same : (a b : Look) → same_look a b ≡ true
    → (number a ≡ number b) × (number (erased_look a) ≡ number (erased_look b))) (f : ℕ → Look)
    (s : Size) (zero_is : number plain_look ≡ 0) where
  abbrev go : Grid → List Part → Grid
  go = run number same f s

  abbrev two : (g : Grid) (ps qs : List Part) → go g (ps ++ qs) ≡ go (go g ps) qs
  two = run_two number same f s

  abbrev pub painted_row : List Cell → List Cell
  painted_row xs = painted_cells number same f s first_pen xs

  abbrev after : Pen → List Cell → Pen
  after = pen_after number same f s

  pub here_after : (xs : List Cell) (w : Bool) (p : Pen) → GoOn w xs → (w ≡ true → p.here ≡ true)
      → ends_drawn xs ≡ true → (after p xs).here ≡ true
  here_after [] w p go h e = absurd (true≢false (sym e))
  here_after (x ∷ []) w p go h e = last_here x.content (f x.look) w p go.0 h e
  here_after (x ∷ y ∷ xs) w p go h e =
      here_after (y ∷ xs) (is_wide x) (pen_by p (f x.look) x.content) go.1
      (wide_here x.content (f x.look) p) (sym (ends_more x y xs) ∙ e)

  abbrev e0 : ℕ
  e0 = number plain_look

  -- a row that is blank
  row_painted : (above below : List (List Cell)) (xs : List Cell) (g : Grid)
      (here : Bool) → IsWhole xs → AreDrawn xs → length xs ≡ s.columns
      → Has s above below e0 e0 here 0 (replicate (length xs) (blank e0)) g
      → here ≡ false
      → Has s above below e0 e0 (after first_pen xs).here (length xs) (painted_row xs)
      (go g (row_parts f (length above) xs))
  row_painted above below xs g here whole drawn wide h away =
      let none : 0 + length xs ≡ length xs = omega arith in
      let all : 0 + length xs ≡ s.columns = omega (arith, wide) in
      subst (λ k. Has s above below e0 e0 (after first_pen xs).here k (painted_row xs)
      (go g (row_parts f (length above) xs))) none
      (cells_painted number same f s above below xs drawn false first_pen [] g whole all
      (subst (λ b. Has s above below e0 e0 b 0 (replicate (length xs) (blank e0)) g) away h))

  blank_has : (above : List (List Cell)) (xs : List Cell) (xss : List (List Cell)) (g : Grid)
      → Draws e0 e0 g → length xs ≡ s.columns → length above < s.rows
      → g.rows ≡ above ++ replicate (length (xs ∷ xss)) (blank_row e0 s.columns)
      → Has s above (replicate (length xss) (blank_row e0 s.columns)) e0 e0 false 0
      (replicate (length xs) (blank e0)) g
  blank_has above xs xss g draws wide less rows = record {
    within = less;
    draws = draws;
    rows = rows ∙ ap (λ k. above ++ replicate k (blank e0)
        ∷ replicate (length xss) (blank_row e0 s.columns)) (sym wide);
    cursor = λ t. absurd (true≢false (sym t));
  }

  -- rows, one after another
  abbrev listed : ℕ → List (List Cell) → List Part
  listed r [] = []
  listed r (xs ∷ xss) = row_parts f r xs ++ listed (r + 1) xss

  rows_painted : (xss above : List (List Cell)) (g : Grid) → AreWhole xss → AllDrawn xss
      → AreWide s.columns xss → length above + length xss ≡ s.rows → Draws e0 e0 g
      → g.rows ≡ above ++ replicate (length xss) (blank_row e0 s.columns)
      → ((go g (listed (length above) xss)).rows ≡ above ++ map painted_row xss)
      × Draws e0 e0 (go g (listed (length above) xss))
  rows_painted [] above g whole drawn wide all draws rows = (rows, draws)
  rows_painted (xs ∷ xss) above g whole drawn wide all draws rows =
      let r = length above in
      let below = replicate (length xss) (blank_row e0 s.columns) in
      let less : r < s.rows = omega (arith, all) in
      let first = row_painted above below xs g false whole.0 drawn.0 wide.0
      (blank_has above xs xss g draws wide.0 less rows) refl in
      let h = go g (row_parts f r xs) in
      let row = painted_row xs in
      let more = above ++ row ∷ [] in
      let len : length more ≡ r + 1 = length_push above row in
      let fits : length more + length xss ≡ s.rows = omega (arith, len, all) in
      let rest = rows_painted xss more h whole.1 drawn.1 wide.1 fits first.draws
      (first.rows ∙ sym (append_assoc above (row ∷ []) below)) in
      let split : go g (listed r (xs ∷ xss)) ≡ go h (listed (length more) xss) =
      two g (row_parts f r xs) (listed (r + 1) xss)
      ∙ ap (λ k. go h (listed k xss)) (sym len) in (
        ap (λ z. z.rows) split ∙ rest.0 ∙ append_assoc above (row ∷ []) (map painted_row xss),
        subst (Draws e0 e0) (sym split) rest.1,
      )

  -- they are all rows, by their places
  pub listed_is : (xss yss : List (List Cell)) (r : ℕ) → drop r yss ≡ xss
      → rows_parts f yss r (length xss) ≡ listed r xss
  listed_is [] yss r e = refl
  listed_is (xs ∷ xss) yss r e =
      let all : length (drop r yss) ≡ length yss - r = length-drop r yss in
      let some : length (drop r yss) ≡ length (xs ∷ xss) = ap length e in
      let less : r < length yss = omega (arith, all, some) in
      let split : get_or yss r [] ∷ drop (r + 1) yss ≡ xs ∷ xss =
      sym (drop_more yss r [] less) ∙ e in
      let first : get_or yss r [] ≡ xs = cc in
      let rest : drop (r + 1) yss ≡ xss = cc in
      ap (λ z. row_parts f r z ++ rows_parts f yss (r + 1) (length xss)) first
      ∙ ap (λ z. row_parts f r xs ++ z) (listed_is xss yss (r + 1) rest)

  -- ---- the cursor

  -- these rows, and the cursor there
  pub record Ends (xss : List (List Cell)) (r n : ℕ) (b : Bool) (z : Grid) : Type 0 where
    pub rows : z.rows ≡ xss
    pub row : z.cursor.row ≡ r
    pub column : z.cursor.column ≡ n
    pub pending : z.cursor.pending ≡ b

  pub placed_there : (r n : ℕ) (rows : List (List Cell)) (g : Grid) → r < s.rows → n < s.columns
      → Draws e0 e0 g → g.rows ≡ rows
      → Ends rows r n false (go g (place r n ∷ []))
  placed_there r n rows g below before draws is =
      subst (Ends rows r n false) (sym (positioned s r n g draws.origin below before)) (record {
        rows = is;
        row = refl;
        column = refl;
        pending = refl;
      })

  -- a painted row does not begin with the second column of a character
  begins : (xs : List Cell) → IsWhole xs → begins_free (painted_row xs) ≡ true
  begins [] whole = refl
  begins (x ∷ xs) whole = by_content x.content (f x.look) whole.0
    where
      by_content : (c : Content) (l : Look) → is_rest_content c ≡ false
          → not (is_rest (painted_cell number same f s first_pen l c)) ≡ true
      by_content content.Blank l h = refl
      by_content (content.Narrow c m) l h = refl
      by_content (content.Wide c m) l h = refl
      by_content content.Rest l h = absurd (true≢false h)

  length_painted : (xs : List Cell) (p : Pen)
      → length (painted_cells number same f s p xs) ≡ length xs
  length_painted [] p = refl
  length_painted (x ∷ xs) p = ap suc (length_painted xs (pen_by p (f x.look) x.content))

  -- a row that is painted again, whatever is there
  pub again : (above below : List (List Cell)) (ys xs : List Cell) (g : Grid)
      → IsWhole xs → AreDrawn xs → length xs ≡ s.columns → 0 < s.columns
      → length above < s.rows → Draws e0 e0 g → g.rows ≡ above ++ ys ∷ below
      → length ys ≡ length xs → begins_free ys ≡ true
      → Has s above below e0 e0 (after first_pen xs).here (length xs) (painted_row xs)
      (go g (row_again f (length above) xs))
  again above below ys xs g whole drawn wide some less draws rows many free =
      let r = length above in
      let none : 0 + length ys ≡ s.columns = omega (arith, many, wide) in
      let there : Has s above below e0 e0 false 0 ys g = record {
        within = less;
        draws = draws;
        rows = rows;
        cursor = λ t. absurd (true≢false (sym t));
      } in
      let at = has_at s above below e0 e0 false 0 0 ys g there some in
      let h = grid_by s g (step.Move (motion.Position r 0)) in
      let gone = has_erased s above below e0 e0 [] ys h at some none free in
      let z = grid_by s h (step.Edit change.EraseRight) in
      let blanked : Has s above below e0 e0 false 0 (replicate (length xs) (blank e0)) z = record {
        within = gone.within;
        draws = gone.draws;
        rows = gone.rows ∙ ap (λ k. above ++ replicate k (blank e0) ∷ below) many;
        cursor = λ t. absurd (true≢false (sym t));
      } in
      row_painted above below xs z false whole drawn wide blanked refl

  -- the rows before one, it, and those after it
  pub rows_at : (xss : List (List Cell)) (i : ℕ) → i < length xss
      → xss ≡ take i xss ++ get_or xss i [] ∷ drop (i + 1) xss
  rows_at xss i less = sym (take-append-drop i xss)
      ∙ ap (λ z. take i xss ++ z) (drop_more xss i [] less)

  -- a fact about each row is one about one row
  pub one_whole : (xss : List (List Cell)) (i : ℕ) → i < length xss → AreWhole xss
      → IsWhole (get_or xss i [])
  one_whole [] i less h = absurd (omega (arith, less))
  one_whole (xs ∷ xss) zero less h = h.0
  one_whole (xs ∷ xss) (suc i) less h = one_whole xss i (omega (arith, less)) h.1

  pub one_drawn : (xss : List (List Cell)) (i : ℕ) → i < length xss → AllDrawn xss
      → AreDrawn (get_or xss i [])
  one_drawn [] i less h = absurd (omega (arith, less))
  one_drawn (xs ∷ xss) zero less h = h.0
  one_drawn (xs ∷ xss) (suc i) less h = one_drawn xss i (omega (arith, less)) h.1

  pub one_wide : (xss : List (List Cell)) (i n : ℕ) → i < length xss → AreWide n xss
      → length (get_or xss i []) ≡ n
  one_wide [] i n less h = absurd (omega (arith, less))
  one_wide (xs ∷ xss) zero n less h = h.0
  one_wide (xs ∷ xss) (suc i) n less h = one_wide xss i n (omega (arith, less)) h.1

  pub ends_row : (above below : List (List Cell)) (n : ℕ) (xs : List Cell) (z : Grid)
      (rows : List (List Cell)) → n ≡ s.columns → 0 < s.columns
      → rows ≡ above ++ xs ∷ below → Has s above below e0 e0 true n xs z
      → Ends rows (length above) (s.columns - 1) true z
  ends_row above below n xs z rows all some is h =
      let k = h.cursor refl in
      let last : min n (s.columns - 1) ≡ s.columns - 1 = omega (arith, all) in
      let test : nat_lt n s.columns ≡ false = grind (arith, nat_tests) in
      record {
        rows = h.rows ∙ sym is;
        row = k.row;
        column = k.column ∙ last;
        pending = k.pending ∙ ap not test;
      }

  pub waits : (a b c : Bool) → a && b && c ≡ true → (b ≡ true) × (c ≡ true)
  waits true true true h = (refl, refl)
  waits true true false h = (refl, h)
  waits true false c h = absurd (true≢false (sym h))
  waits false b c h = absurd (true≢false (sym h))

  -- if a wrap is pending
  waiting_there : (q g : Grid) → AreWhole q.rows → AllDrawn q.rows → IsFull s q.rows
      → IsOn s q.cursor → is_waiting s q ≡ true → Draws e0 e0 g
      → g.rows ≡ map painted_row q.rows
      → Ends (map painted_row q.rows) q.cursor.row q.cursor.column true
      (go g (row_again f q.cursor.row (row_of_cursor q)))
  waiting_there q g whole drawn full on waiting draws rows =
      let i = q.cursor.row in
      let xss = q.rows in
      let xs = row_of_cursor q in
      let less : i < length xss = omega (arith, full.height, on.row) in
      let above = map painted_row (take i xss) in
      let below = map painted_row (drop (i + 1) xss) in
      let fewer : i ≤ length xss = omega (arith, less) in
      let len : length above ≡ i = length-map (take i xss) painted_row
      ∙ length-take-le i xss fewer in
      let split : map painted_row xss ≡ above ++ painted_row xs ∷ below =
      ap (map painted_row) (rows_at xss i less)
      ∙ map-append painted_row (take i xss) (xs ∷ drop (i + 1) xss) in
      let some : 0 < s.columns = omega (arith, on.column) in
      let inside : length above < s.rows = omega (arith, len, on.row) in
      let wide = one_wide xss i s.columns less full.width in
      let w = waits q.cursor.pending (q.cursor.column + 1 == s.columns) (ends_drawn xs) waiting in
      let test : (q.cursor.column + 1 == s.columns) ≡ true = w.0 in
      let last : q.cursor.column + 1 ≡ s.columns = grind (arith, nat_tests) in
      let column : s.columns - 1 ≡ q.cursor.column = omega (arith, last) in
      let w_xs = one_whole xss i less whole in
      let done = again above below (painted_row xs) xs g w_xs (one_drawn xss i less drawn)
      wide some inside draws (rows ∙ split) (length_painted xs first_pen) (begins xs w_xs) in
      let z = go g (row_again f (length above) xs) in
      let here : (after first_pen xs).here ≡ true =
      here_after xs false first_pen (one_whole xss i less whole) (λ t. absurd (true≢false (sym t)))
      w.1 in
      let there =
      ends_row above below (length xs) (painted_row xs) z (map painted_row xss) wide some split
      (subst (λ b. Has s above below e0 e0 b (length xs) (painted_row xs) z) here done) in
      subst (λ k. Ends (map painted_row xss) i q.cursor.column true (go g (row_again f k xs))) len
      (subst (λ k. Ends (map painted_row xss) i k true z) column
      (subst (λ k. Ends (map painted_row xss) k (s.columns - 1) true z) len there))

  cursor_by : (t : Bool) (q g : Grid) → is_waiting s q ≡ t → AreWhole q.rows → AllDrawn q.rows
      → IsFull s q.rows → IsOn s q.cursor → Draws e0 e0 g → g.rows ≡ map painted_row q.rows
      → Ends (map painted_row q.rows) q.cursor.row q.cursor.column t
      (go g (if t then row_again f q.cursor.row (row_of_cursor q)
      else place q.cursor.row q.cursor.column ∷ []))
  cursor_by true q g is whole drawn full on draws rows =
      waiting_there q g whole drawn full on is draws rows
  cursor_by false q g is whole drawn full on draws rows =
      placed_there q.cursor.row q.cursor.column (map painted_row q.rows) g on.row on.column draws
      rows

  -- ---- all of it

  -- a grid, painted over another one
  pub paints : (g q : Grid) → IsFull s g.rows → AreWhole q.rows → AllDrawn q.rows
      → IsFull s q.rows → IsOn s q.cursor
      → Ends (map painted_row q.rows) q.cursor.row q.cursor.column (is_waiting s q)
      (go g (paint_parts f s q))
  paints g q old whole drawn full on =
      let h = cleared s g in
      let xss = q.rows in
      let draws : Draws e0 e0 h = subst (λ k. Draws k k h) (sym zero_is) (cleared_draws s g) in
      let none : 0 + length xss ≡ s.rows = omega (arith, full.height) in
      let rows : h.rows ≡ replicate (length xss) (blank_row e0 s.columns) = cleared_rows s g old
      ∙ ap (λ k. replicate k (blank_row 0 s.columns)) (sym full.height)
      ∙ ap (λ k. replicate (length xss) (blank_row k s.columns)) (sym zero_is) in
      let done = rows_painted xss [] h whole drawn full.width none draws rows in
      let z = go h (listed 0 xss) in
      let same : rows_parts f xss 0 s.rows ≡ listed 0 xss =
      ap (rows_parts f xss 0) (sym full.height) ∙ listed_is xss xss 0 refl in
      subst (Ends (map painted_row xss) q.cursor.row q.cursor.column (is_waiting s q))
      (sym (ap (λ ps. go h (ps ++ cursor_parts f s q)) same
      ∙ two h (listed 0 xss) (cursor_parts f s q)))
      (cursor_by (is_waiting s q) q z refl whole drawn full on done.1 done.0)
