-- A screen that is led to another one: its rows, and its cursor.
use Rattle.std.proofs.Common.{ℕ, zero, suc, ◌≡◌, ◌+◌, ◌-◌, ◌==◌, ◌<◌, ◌≤◌, Bool, true, false, not, List, [], ◌∷◌, ◌++◌, length, take, drop, replicate, get_or, if◌then◌else◌, refl, ap, sym, subst, ◌∙◌, append_assoc, take-append-drop, arith}
use Rattle.std.proofs.lemmas.Bool.{eqb-true, true≢false}
use Rattle.std.proofs.lemmas.Bool.Decides.{nat_tests}
use Rattle.std.proofs.lemmas.List.{drop_more, length-drop, length-map, length-take-le, length_push, map-append}
use Rattle.esc_style.specs.Looks.{plain_look}
use Rattle.esc_style.specs.declared.look.Look.{Look}
use Rattle.esc_sgr.specs.Sgr.{same_look}
use Rattle.esc_screen.specs.Cells.{blank, is_rest_content}
use Rattle.esc_screen.specs.Grids.{Grid, Size, row_of_cursor}
use Rattle.esc_screen.specs.Halves.{AreWhole, GoOn, IsWhole}
use Rattle.esc_screen.specs.Sound.{AreWide, IsFull, IsOn}
use Rattle.esc_screen.specs.Steps.{grid_by}
use Rattle.esc_screen.specs.declared.cell.Cell.{Cell}
use Rattle.esc_screen.specs.declared.content.Content.{Content}
use Rattle.esc_screen.specs.declared.content.Content.TheVariants as content
use Rattle.esc_screen.specs.declared.change.Change.TheVariants as change
use Rattle.esc_screen.specs.declared.motion.Motion.TheVariants as motion
use Rattle.esc_screen.specs.declared.setting.Setting.TheVariants as setting
use Rattle.esc_screen.specs.declared.step.Step.TheVariants as step
use Rattle.esc_terminal.specs.Looks.{erased_look}
use Rattle.esc_paint.specs.Parts.{Part, place, soft_reset}
use Rattle.esc_paint.specs.declared.pen.Pen.{Pen}
use Rattle.esc_paint.specs.Painting.{cells_parts, cursor_parts, ends_drawn, first_pen, is_waiting, pen_by, row_again}
use Rattle.esc_paint.specs.Differences.{here_pen, is_other, rest_parts, row_changes, rows_changes, same_cells}
use Rattle.esc_paint.specs.Drawn.{AllDrawn, AreDrawn}
use Rattle.esc_paint.specs.Laws.{contents_of}
use Rattle.esc_paint.proofs.Rows.{Draws, Has, begins_free, has_at, has_erased}
use Rattle.esc_paint.proofs.Plain.{drawn_drop}
use Rattle.esc_paint.proofs.Painted.{cells_painted, painted_cell, painted_cells, pen_after, run, run_two}
use Rattle.esc_paint.proofs.Alike.{contents, head_is, not_empty, not_more, parts, tail_is}
use Rattle.esc_paint.proofs.Screens.{again, ends_row, here_after, one_drawn, one_whole, one_wide, painted_row, placed_there, rows_at, waits}

-- ---- rows with the same contents

same_length : (us ys : List Cell) → contents us ≡ contents ys → length us ≡ length ys
same_length us ys h =
    sym (length-map us (λ (x : Cell). x.content)) ∙ ap length h
    ∙ length-map ys (λ (x : Cell). x.content)

begins_as : (us ys : List Cell) → contents us ≡ contents ys → begins_free us ≡ begins_free ys
begins_as [] [] h = refl
begins_as [] (y ∷ ys) h = absurd (not_empty y.content (contents ys) h)
begins_as (u ∷ us) [] h = absurd (not_more u.content (contents us) h)
begins_as (u ∷ us) (y ∷ ys) h =
    let first = head_is u.content y.content (contents us) (contents ys) h in
    ap (λ c. not (is_rest_content c)) first

whole_begins : (ys : List Cell) → IsWhole ys → begins_free ys ≡ true
whole_begins [] h = refl
whole_begins (y ∷ ys) h = ap not h.0

-- the contents of one row of them
row_contents : (i : ℕ) (xss yss : List (List Cell)) → contents_of xss ≡ contents_of yss
    → contents (get_or xss i []) ≡ contents (get_or yss i [])
row_contents i [] [] h = refl
row_contents i [] (ys ∷ yss) h = absurd (not_empty (contents ys) (contents_of yss) h)
row_contents i (xs ∷ xss) [] h = absurd (not_more (contents xs) (contents_of xss) h)
row_contents zero (xs ∷ xss) (ys ∷ yss) h =
    head_is (contents xs) (contents ys) (contents_of xss) (contents_of yss) h
row_contents (suc i) (xs ∷ xss) (ys ∷ yss) h =
    row_contents i xss yss
    (tail_is (contents xs) (contents ys) (contents_of xss) (contents_of yss) h)

pub same_height : (xss yss : List (List Cell)) → contents_of xss ≡ contents_of yss
    → length xss ≡ length yss
same_height xss yss h =
    sym (length-map xss contents) ∙ ap length h ∙ length-map yss contents

pub wide_as : (n : ℕ) (xss yss : List (List Cell)) → contents_of xss ≡ contents_of yss
    → AreWide n yss → AreWide n xss
wide_as n [] yss h wide = omega arith
wide_as n (xs ∷ xss) [] h wide = absurd (not_more (contents xs) (contents_of xss) h)
wide_as n (xs ∷ xss) (ys ∷ yss) h wide =
    let first = head_is (contents xs) (contents ys) (contents_of xss) (contents_of yss) h in
    let rest = tail_is (contents xs) (contents ys) (contents_of xss) (contents_of yss) h in
    (same_length xs ys first ∙ wide.0, wide_as n xss yss rest wide.1)

-- with another row that has the same contents in the place of one
contents_with : (above below : List (List Cell)) (us ys : List Cell) → contents us ≡ contents ys
    → contents_of (above ++ us ∷ below) ≡ contents_of (above ++ ys ∷ below)
contents_with above below us ys h =
    map-append contents above (us ∷ below)
    ∙ ap (λ z. contents_of above ++ z ∷ contents_of below) h
    ∙ sym (map-append contents above (ys ∷ below))

-- the first of the rows from one on, and the others
pub cut_at : (all : List (List Cell)) (i : ℕ) (x : List Cell) (rest : List (List Cell))
    → drop i all ≡ x ∷ rest → (get_or all i [] ≡ x) × (drop (i + 1) all ≡ rest)
cut_at all i x rest h =
    let left : length (drop i all) ≡ length all - i = length-drop i all in
    let some : length (drop i all) ≡ length (x ∷ rest) = ap length h in
    let less : i < length all = omega (arith, left, some) in
    let split : get_or all i [] ∷ drop (i + 1) all ≡ x ∷ rest =
    sym (drop_more all i [] less) ∙ h in
    let y = get_or all i [] in
    let more = drop (i + 1) all in
    (head_is y x more rest split, tail_is y x more rest split)

-- ---- the cells that are painted, if looks have these numbers

module _ (number : Look → ℕ) (same : (a b : Look) → same_look a b ≡ true
    → (number a ≡ number b) × (number (erased_look a) ≡ number (erased_look b))) (k : ℕ → Look)
    (s : Size) (zero_is : number plain_look ≡ 0) where
  abbrev runs : Grid → List Part → Grid
  runs = run number same k s

  abbrev paints : Pen → List Cell → List Cell
  paints = painted_cells number same k s

  abbrev e0 : ℕ
  e0 = number plain_look

  cell_content : (p : Pen) (l : Look) (c : Content)
      → (painted_cell number same k s p l c).content ≡ c
  cell_content p l content.Blank = refl
  cell_content p l (content.Narrow c m) = refl
  cell_content p l (content.Wide c m) = refl
  cell_content p l content.Rest = refl

  paints_contents : (p : Pen) (xs : List Cell) → contents (paints p xs) ≡ contents xs
  paints_contents p [] = refl
  paints_contents p (x ∷ xs) =
      let q = pen_by p (k x.look) x.content in
      ap (λ c. c ∷ contents (paints q xs)) (cell_content p (k x.look) x.content)
      ∙ ap (λ z. x.content ∷ z) (paints_contents q xs)

  -- ---- one row

  -- a row with the contents of another one is where it is to be
  record HasRow (above below : List (List Cell)) (ys : List Cell) (z : Grid) : Type 0 where
    pub row : List Cell
    pub shows : contents row ≡ contents ys
    pub draws : Draws e0 e0 z
    pub rows : z.rows ≡ above ++ row ∷ below

  -- from a column on
  rest_led : (above below : List (List Cell)) (us ys : List Cell) (n : ℕ) (g : Grid)
      → n < length ys → contents (take n us) ≡ contents (take n ys)
      → begins_free (drop n us) ≡ true → GoOn false (drop n ys) → AreDrawn ys
      → length us ≡ s.columns → length ys ≡ s.columns → length above < s.rows → Draws e0 e0 g
      → g.rows ≡ above ++ us ∷ below
      → HasRow above below ys (runs g (rest_parts k (length above) n ys))
  rest_led above below us ys n g less same_part free go_on drawn wide full inside draws rows =
      let r = length above in
      let p = take n us in
      let q = drop n us in
      let xs = drop n ys in
      let fewer : n ≤ length us = omega (arith, less, wide, full) in
      let before : n < s.columns = omega (arith, less, full) in
      let len : length p ≡ n = length-take-le n us fewer in
      let rest : length q ≡ length us - n = length-drop n us in
      let more : length xs ≡ length ys - n = length-drop n ys in
      let many : length q ≡ length xs = omega (arith, rest, more, wide, full) in
      let fits : length p + length q ≡ s.columns = omega (arith, len, rest, wide, fewer) in
      let all : length p + length xs ≡ s.columns = omega (arith, fits, many) in
      let there : Has s above below e0 e0 false 0 us g = record {
        within = inside;
        draws = draws;
        rows = rows;
        cursor = λ t. absurd (true≢false (sym t));
      } in
      let at = has_at s above below e0 e0 false 0 n us g there before in
      let h = grid_by s g (step.Move (motion.Position r n)) in
      let parted : Has s above below e0 e0 true (length p) (p ++ q) h =
      subst (λ i. Has s above below e0 e0 true i (p ++ q) h) (sym len)
      (subst (λ z. Has s above below e0 e0 true n z h) (sym (take-append-drop n us)) at) in
      let short : length p < s.columns = omega (arith, len, before) in
      let gone = has_erased s above below e0 e0 p q h parted short fits free in
      let z = grid_by s h (step.Edit change.EraseRight) in
      let none : length p ≡ length p + 0 = omega arith in
      let blanked : Has s above below e0 e0 true (length p + 0)
      (p ++ replicate (length xs) (blank e0)) z =
      subst (λ i. Has s above below e0 e0 true i (p ++ replicate (length xs) (blank e0)) z) none
      (subst (λ i. Has s above below e0 e0 true (length p) (p ++ replicate i (blank e0)) z) many
      gone) in
      let done = cells_painted number same k s above below xs (drawn_drop n ys drawn) false here_pen
      p z go_on all blanked in
      let last = runs z (cells_parts k r (length p) here_pen xs) in
      let led : HasRow above below ys last = record {
        row = p ++ paints here_pen xs;
        shows = map-append (λ (x : Cell). x.content) p (paints here_pen xs)
            ∙ ap (λ c. c ++ contents (paints here_pen xs)) same_part
            ∙ ap (λ c. contents (take n ys) ++ c) (paints_contents here_pen xs)
            ∙ sym (map-append (λ (x : Cell). x.content) (take n ys) xs)
            ∙ ap contents (take-append-drop n ys);
        draws = done.draws;
        rows = done.rows;
      } in
      subst (λ i. HasRow above below ys (runs z (cells_parts k r i here_pen xs))) len led

  -- all of it
  row_led : (f : ℕ → Look) (above below : List (List Cell)) (us xs ys : List Cell) (g : Grid)
      → contents us ≡ contents xs → IsWhole us → IsWhole ys → AreDrawn ys
      → length us ≡ s.columns → length ys ≡ s.columns → length above < s.rows → Draws e0 e0 g
      → g.rows ≡ above ++ us ∷ below
      → HasRow above below ys (runs g (row_changes f k (length above) xs ys))
  row_led f above below us xs ys g shows whole other drawn wide full inside draws rows =
      by_test (is_other f k xs ys) refl
    where
      by_test : (t : Bool) → is_other f k xs ys ≡ t
          → HasRow above below ys (runs g (if t
          then rest_parts k (length above) (same_cells f k xs ys) ys
          else []))
      by_test true is =
          let h = parts f k false us xs ys shows whole other (wide ∙ sym full) in
          let w = h.0 is in
          let less : same_cells f k xs ys < length ys = grind (arith, nat_tests) in
          rest_led above below us ys (same_cells f k xs ys) g less w.0 w.1 w.2 drawn wide full
          inside draws rows
      by_test false is =
          let h = parts f k false us xs ys shows whole other (wide ∙ sym full) in
          record {
            row = us;
            shows = h.1 is;
            draws = draws;
            rows = rows;
          }

  -- ---- rows, one after another

  abbrev listed : (ℕ → Look) → ℕ → List (List Cell) → List (List Cell) → List Part
  listed f r xss [] = []
  listed f r [] (ys ∷ yss) = []
  listed f r (xs ∷ xss) (ys ∷ yss) = row_changes f k r xs ys ++ listed f (r + 1) xss yss

  -- rows with the contents of others are after those above
  record HasRows (above yss : List (List Cell)) (z : Grid) : Type 0 where
    pub rest : List (List Cell)
    pub shows : contents_of rest ≡ contents_of yss
    pub draws : Draws e0 e0 z
    pub rows : z.rows ≡ above ++ rest

  rows_led : (f : ℕ → Look) (above uss xss yss : List (List Cell)) (g : Grid)
      → contents_of uss ≡ contents_of xss → AreWhole uss → AreWhole yss → AllDrawn yss
      → AreWide s.columns uss → AreWide s.columns yss → length uss ≡ length yss
      → length above + length yss ≡ s.rows → Draws e0 e0 g → g.rows ≡ above ++ uss
      → HasRows above yss (runs g (listed f (length above) xss yss))
  rows_led f above [] xss [] g shows whole other drawn wide full len all draws rows = record {
    rest = [];
    shows = refl;
    draws = draws;
    rows = rows;
  }
  rows_led f above [] xss (ys ∷ yss) g shows whole other drawn wide full len all draws rows =
      absurd (omega (arith, len))
  rows_led f above (us ∷ uss) xss [] g shows whole other drawn wide full len all draws rows =
      absurd (omega (arith, len))
  rows_led f above (us ∷ uss) [] (ys ∷ yss) g shows whole other drawn wide full len all draws
      rows = absurd (not_more (contents us) (contents_of uss) shows)
  rows_led f above (us ∷ uss) (xs ∷ xss) (ys ∷ yss) g shows whole other drawn wide full len all
      draws rows =
      let r = length above in
      let first = head_is (contents us) (contents xs) (contents_of uss) (contents_of xss) shows in
      let others = tail_is (contents us) (contents xs) (contents_of uss) (contents_of xss) shows in
      let inside : r < s.rows = omega (arith, all) in
      let one = row_led f above uss us xs ys g first whole.0 other.0 drawn.0 wide.0 full.0 inside
      draws rows in
      let h = runs g (row_changes f k r xs ys) in
      let more = above ++ one.row ∷ [] in
      let here : length more ≡ r + 1 = length_push above one.row in
      let fewer : length uss ≡ length yss = omega (arith, len) in
      let fits : length more + length yss ≡ s.rows = omega (arith, here, all) in
      let rest = rows_led f more uss xss yss h others whole.1 other.1 drawn.1 wide.1 full.1 fewer
      fits one.draws (one.rows ∙ sym (append_assoc above (one.row ∷ []) uss)) in
      let split : runs g (listed f r (xs ∷ xss) (ys ∷ yss))
      ≡ runs h (listed f (length more) xss yss) =
      run_two number same k s g (row_changes f k r xs ys) (listed f (r + 1) xss yss)
      ∙ ap (λ i. runs h (listed f i xss yss)) (sym here) in
      record {
        rest = one.row ∷ rest.rest;
        shows = ap (λ c. c ∷ contents_of rest.rest) one.shows
            ∙ ap (λ c. contents ys ∷ c) rest.shows;
        draws = subst (Draws e0 e0) (sym split) rest.draws;
        rows = ap (λ z. z.rows) split ∙ rest.rows
            ∙ append_assoc above (one.row ∷ []) rest.rest;
      }

  -- they are all rows, by their places
  listed_is : (f : ℕ → Look) (xss yss uss vss : List (List Cell)) (r : ℕ) → drop r uss ≡ xss
      → drop r vss ≡ yss → length xss ≡ length yss
      → rows_changes f k uss vss r (length yss) ≡ listed f r xss yss
  listed_is f xss [] uss vss r d e len = refl
  listed_is f [] (ys ∷ yss) uss vss r d e len = absurd (omega (arith, len))
  listed_is f (xs ∷ xss) (ys ∷ yss) uss vss r d e len =
      let old = cut_at uss r xs xss d in
      let new = cut_at vss r ys yss e in
      let fewer : length xss ≡ length yss = omega (arith, len) in
      ap (λ z. row_changes f k r z (get_or vss r [])
      ++ rows_changes f k uss vss (r + 1) (length yss)) old.0
      ∙ ap (λ z. row_changes f k r xs z ++ rows_changes f k uss vss (r + 1) (length yss)) new.0
      ∙ ap (λ z. row_changes f k r xs ys ++ z)
      (listed_is f xss yss uss vss (r + 1) old.1 new.1 fewer)

  -- ---- the cursor

  -- the same rows and cursor, but for a wrap that is pending
  pub record Shows (q : Grid) (t : Bool) (z : Grid) : Type 0 where
    pub shows : contents_of z.rows ≡ contents_of q.rows
    pub row : z.cursor.row ≡ q.cursor.row
    pub column : z.cursor.column ≡ q.cursor.column
    pub pending : z.cursor.pending ≡ t

  -- if a wrap is pending
  waiting_led : (q g : Grid) → AreWhole q.rows → AllDrawn q.rows → IsFull s q.rows
      → IsOn s q.cursor → is_waiting s q ≡ true → Draws e0 e0 g
      → contents_of g.rows ≡ contents_of q.rows
      → Shows q true (runs g (row_again k q.cursor.row (row_of_cursor q)))
  waiting_led q g whole drawn full on waiting draws shows =
      let i = q.cursor.row in
      let uss = g.rows in
      let us = get_or uss i [] in
      let xs = row_of_cursor q in
      let high : length uss ≡ length q.rows = same_height uss q.rows shows in
      let less : i < length q.rows = omega (arith, full.height, on.row) in
      let inner : i < length uss = omega (arith, less, high) in
      let above = take i uss in
      let below = drop (i + 1) uss in
      let fewer : i ≤ length uss = omega (arith, inner) in
      let len : length above ≡ i = length-take-le i uss fewer in
      let split : uss ≡ above ++ us ∷ below = rows_at number same k s zero_is uss i inner in
      let one = row_contents i uss q.rows shows in
      let many = same_length us xs one in
      let w_xs = one_whole number same k s zero_is q.rows i less whole in
      let d_xs = one_drawn number same k s zero_is q.rows i less drawn in
      let wide = one_wide number same k s zero_is q.rows i s.columns less full.width in
      let free = begins_as us xs one ∙ whole_begins xs w_xs in
      let some : 0 < s.columns = omega (arith, on.column) in
      let inside : length above < s.rows = omega (arith, len, on.row) in
      let w = waits number same k s zero_is q.cursor.pending (q.cursor.column + 1 == s.columns)
      (ends_drawn xs) waiting in
      let last : q.cursor.column + 1 ≡ s.columns =
      eqb-true (q.cursor.column + 1) s.columns w.0 in
      let column : s.columns - 1 ≡ q.cursor.column = omega (arith, last) in
      let done = again number same k s zero_is above below us xs g w_xs d_xs wide some inside draws
      split many free in
      let z = runs g (row_again k (length above) xs) in
      let ys = painted_row number same k s zero_is xs in
      let here : (pen_after number same k s first_pen xs).here ≡ true =
      here_after number same k s zero_is xs false first_pen w_xs (λ t. absurd (true≢false (sym t)))
      w.1 in
      let there = ends_row number same k s zero_is above below (length xs) ys z
      (above ++ ys ∷ below) wide some refl
      (subst (λ b. Has s above below e0 e0 b (length xs) ys z) here done) in
      let last_shown : Shows q true z = record {
        shows = ap contents_of there.rows
            ∙ contents_with above below ys us (paints_contents first_pen xs ∙ sym one)
            ∙ ap contents_of (sym split) ∙ shows;
        row = there.row ∙ len;
        column = there.column ∙ column;
        pending = there.pending;
      } in
      subst (λ j. Shows q true (runs g (row_again k j xs))) len last_shown

  cursor_led : (t : Bool) (q g : Grid) → is_waiting s q ≡ t → AreWhole q.rows → AllDrawn q.rows
      → IsFull s q.rows → IsOn s q.cursor → Draws e0 e0 g
      → contents_of g.rows ≡ contents_of q.rows
      → Shows q t (runs g (if t then row_again k q.cursor.row (row_of_cursor q)
      else place q.cursor.row q.cursor.column ∷ []))
  cursor_led true q g is whole drawn full on draws shows =
      waiting_led q g whole drawn full on is draws shows
  cursor_led false q g is whole drawn full on draws shows =
      let e = placed_there number same k s zero_is q.cursor.row q.cursor.column g.rows g on.row
      on.column draws refl in
      record {
        shows = ap contents_of e.rows ∙ shows;
        row = e.row;
        column = e.column;
        pending = e.pending;
      }

  -- ---- all of it

  -- a grid that shows one is led to another
  pub led : (f : ℕ → Look) (g q h : Grid) → IsFull s g.rows → AreWhole g.rows
      → contents_of g.rows ≡ contents_of q.rows → AreWhole h.rows → AllDrawn h.rows
      → IsFull s h.rows → IsOn s h.cursor
      → Shows h (is_waiting s h)
      (runs g (soft_reset ∷ (rows_changes f k q.rows h.rows 0 s.rows ++ cursor_parts k s h)))
  led f g q h old whole shows other drawn full on =
      let z = grid_by s g (step.Set setting.SoftReset) in
      let reset : Draws 0 0 z = record {
        direct = refl;
        origin = refl;
        wraps = refl;
        look = refl;
        erased = refl;
      } in
      let draws : Draws e0 e0 z = subst (λ i. Draws i i z) (sym zero_is) reset in
      let high : length g.rows ≡ length h.rows = old.height ∙ sym full.height in
      let both : length q.rows ≡ length h.rows =
      sym (same_height g.rows q.rows shows) ∙ high in
      let all : 0 + length h.rows ≡ s.rows = omega (arith, full.height) in
      let done = rows_led f [] g.rows q.rows h.rows z shows whole other drawn old.width full.width
      high all draws refl in
      let ps = listed f 0 q.rows h.rows in
      let same_parts : rows_changes f k q.rows h.rows 0 s.rows ≡ ps =
      ap (rows_changes f k q.rows h.rows 0) (sym full.height)
      ∙ listed_is f q.rows h.rows q.rows h.rows 0 refl refl both in
      let last = cursor_parts k s h in
      subst (Shows h (is_waiting s h))
      (sym (ap (λ rs. runs z (rs ++ last)) same_parts ∙ run_two number same k s z ps last))
      (cursor_led (is_waiting s h) h (runs z ps) refl other drawn full on done.draws
      (ap contents_of done.rows ∙ done.shows))
