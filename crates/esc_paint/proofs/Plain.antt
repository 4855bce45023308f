-- The text of a screen that looks plain is read as this screen.
use Rattle.std.proofs.Common.{ℕ, zero, suc, ◌≡◌, ◌+◌, ◌-◌, ◌<◌, ◌≤◌, Bool, true, false, List, [], ◌∷◌, ◌++◌, length, drop, get_or, Option, None, Some, if◌then◌else◌, refl, sym, subst, arith}
use Rattle.std.proofs.lemmas.Bool.Decides.{nat_tests}
use Rattle.std.proofs.lemmas.List.{length-drop}
use Rattle.esc_values.specs.Clear.{is_clear}
use Rattle.esc_style.specs.Looks.{plain_look}
use Rattle.esc_style.specs.declared.look.Look.{Look}
use Rattle.esc_screen.specs.Grids.{Grid, Size, row_of_cursor}
use Rattle.esc_screen.specs.Sound.{AreWide, IsFull, IsOn}
use Rattle.esc_screen.specs.declared.cell.Cell.{Cell}
use Rattle.esc_screen.specs.declared.content.Content.{Content}
use Rattle.esc_screen.specs.declared.content.Content.TheVariants as content
use Rattle.esc_screen.specs.declared.marks.Marks.{Marks}
use Rattle.esc_paint.specs.declared.pen.Pen.{Pen}
use Rattle.esc_paint.specs.Parts.{Part, character, place, soft_reset}
use Rattle.esc_paint.specs.Painting.{cells_parts, content_parts, cursor_parts, drawn_parts, is_waiting, marks_parts, paint_parts, pen_by, place_change, row_again, row_parts, rows_parts}
use Rattle.esc_paint.specs.Differences.{is_other, rest_parts, row_changes, rows_changes, same_cells}
use Rattle.esc_paint.specs.Drawn.{AllDrawn, AreDrawn, AreMarks, IsDrawn, IsMarked}
use Rattle.esc_paint.specs.Laws.{AllLookPlain, LookPlain}
use Rattle.esc_paint.proofs.Parts.{AllFit}

pub fit_two : (ps qs : List Part) → AllFit ps → AllFit qs → AllFit (ps ++ qs)
fit_two [] qs h k = k
fit_two (p ∷ ps) qs h k = (h.0, fit_two ps qs h.1 k)

abbrev pub plain_pen : Bool → Pen
plain_pen b = record {
  here = b;
  look = plain_look;
  back = plain_look;
}

-- ---- the cells from a column on

pub drawn_drop : (n : ℕ) (xs : List Cell) → AreDrawn xs → AreDrawn (drop n xs)
drawn_drop zero xs h = h
drawn_drop (suc n) [] h = tt
drawn_drop (suc n) (x ∷ xs) h = drawn_drop n xs h.1

-- ---- cells

marks_fit : (a b : Option ℕ) (o : Bool) → AreMarks a b o → AllFit (marks_parts (record {
  first = a;
  second = b;
  others = o;
}))
marks_fit None None false h = tt
marks_fit None None true h = absurd h
marks_fit None (Some b) o h = absurd h
marks_fit (Some a) None false h = (h.1, tt)
marks_fit (Some a) None true h = absurd h
marks_fit (Some a) (Some b) false h = (h.0.1, (h.1.1, tt))
marks_fit (Some a) (Some b) true h = (h.0.1, (h.1.1, (h.0.1, tt)))

placed_fit : (b : Bool) (r n : ℕ) → r < 65536 → n < 65536 → AllFit (place_change b r n)
placed_fit true r n h k = tt
placed_fit false r n h k = ((h, k), tt)

drawn_fit : (b : Bool) (r n c : ℕ) (m : Marks) → r < 65536 → n < 65536 → is_clear c ≡ true
    → IsMarked m → AllFit (drawn_parts r n (plain_pen b) c m plain_look)
drawn_fit b r n c m h k clear marked =
    fit_two (place_change b r n) (character c ∷ marks_parts m) (placed_fit b r n h k)
    (clear, marks_fit m.first m.second m.others marked)

module _ (f : ℕ → Look) where
  pub plain_drop : (n : ℕ) (xs : List Cell) → LookPlain f xs → LookPlain f (drop n xs)
  plain_drop zero xs h = h
  plain_drop (suc n) [] h = tt
  plain_drop (suc n) (x ∷ xs) h = plain_drop n xs h.1

  abbrev Fit : ℕ → List Cell → Type 0
  Fit r xs = (n : ℕ) (b : Bool) → n + length xs ≤ 65536
      → AllFit (cells_parts f r n (plain_pen b) xs)

  cell_fits : (r : ℕ) (c : Content) (xs : List Cell) → r < 65536 → IsDrawn c → Fit r xs
      → (n : ℕ) (b : Bool) → n + suc (length xs) ≤ 65536
      → AllFit (content_parts r n (plain_pen b) plain_look c
      ++ cells_parts f r (n + 1) (pen_by (plain_pen b) plain_look c) xs)
  cell_fits r content.Blank xs less d rest n b few = rest (n + 1) false (omega (arith, few))
  cell_fits r (content.Narrow c m) xs less d rest n b few =
      fit_two (drawn_parts r n (plain_pen b) c m plain_look)
      (cells_parts f r (n + 1) (plain_pen true) xs)
      (drawn_fit b r n c m less (omega (arith, few)) d.0.1 d.1)
      (rest (n + 1) true (omega (arith, few)))
  cell_fits r (content.Wide c m) xs less d rest n b few =
      fit_two (drawn_parts r n (plain_pen b) c m plain_look)
      (cells_parts f r (n + 1) (plain_pen true) xs)
      (drawn_fit b r n c m less (omega (arith, few)) d.0.1 d.1)
      (rest (n + 1) true (omega (arith, few)))
  cell_fits r content.Rest xs less d rest n b few = rest (n + 1) b (omega (arith, few))

  cells_fit : (r : ℕ) (xs : List Cell) → r < 65536 → AreDrawn xs → LookPlain f xs → Fit r xs
  cells_fit r [] less d plain n b few = tt
  cells_fit r (x ∷ xs) less d plain n b few =
      subst (λ l. AllFit (content_parts r n (plain_pen b) l x.content
      ++ cells_parts f r (n + 1) (pen_by (plain_pen b) l x.content) xs)) (sym plain.0)
      (cell_fits r x.content xs less d.0 (cells_fit r xs less d.1 plain.1) n b few)

  -- ---- rows

  row_fits : (s : Size) (r : ℕ) (xs : List Cell) → s.columns ≤ 65536 → r < 65536 → AreDrawn xs
      → LookPlain f xs → length xs ≡ s.columns → AllFit (row_parts f r xs)
  row_fits s r xs most less d plain wide =
      cells_fit r xs less d plain 0 false (omega (arith, wide, most))

  get_fits : (s : Size) (r : ℕ) (xss : List (List Cell)) (i : ℕ) → i < length xss
      → s.columns ≤ 65536 → r < 65536 → AllDrawn xss → AllLookPlain f xss
      → AreWide s.columns xss → AllFit (row_parts f r (get_or xss i []))
  get_fits s r [] i inside most less d plain wide = absurd (omega (arith, inside))
  get_fits s r (xs ∷ xss) zero inside most less d plain wide =
      row_fits s r xs most less d.0 plain.0 wide.0
  get_fits s r (xs ∷ xss) (suc i) inside most less d plain wide =
      get_fits s r xss i (omega (arith, inside)) most less d.1 plain.1 wide.1

  rows_fit : (s : Size) (xss : List (List Cell)) (r n : ℕ) → r + n ≤ length xss
      → length xss ≤ 65536 → s.columns ≤ 65536 → AllDrawn xss → AllLookPlain f xss
      → AreWide s.columns xss → AllFit (rows_parts f xss r n)
  rows_fit s xss r zero all few most d plain wide = tt
  rows_fit s xss r (suc n) all few most d plain wide =
      fit_two (row_parts f r (get_or xss r [])) (rows_parts f xss (r + 1) n)
      (get_fits s r xss r (omega (arith, all)) most (omega (arith, all, few)) d plain wide)
      (rows_fit s xss (r + 1) n (omega (arith, all)) few most d plain wide)

  -- ---- all of it

  cursor_fits : (t : Bool) (s : Size) (g : Grid) → IsFull s g.rows → IsOn s g.cursor
      → s.rows ≤ 65536 → s.columns ≤ 65536 → AllDrawn g.rows → AllLookPlain f g.rows
      → AllFit (if t then row_again f g.cursor.row (row_of_cursor g)
      else place g.cursor.row g.cursor.column ∷ [])
  cursor_fits true s g full on few most d plain =
      let less : g.cursor.row < 65536 = omega (arith, on.row, few) in
      let inside : g.cursor.row < length g.rows = omega (arith, on.row, full.height) in (
        (less, omega arith),
        (
          tt,
          get_fits s g.cursor.row g.rows g.cursor.row inside most less d plain
              full.width,
        ),
      )
  cursor_fits false s g full on few most d plain =
      ((omega (arith, on.row, few), omega (arith, on.column, most)), tt)

  pub paint_fits : (s : Size) (g : Grid) → IsFull s g.rows → IsOn s g.cursor
      → s.rows ≤ 65536 → s.columns ≤ 65536 → AllDrawn g.rows → AllLookPlain f g.rows
      → AllFit (paint_parts f s g)
  paint_fits s g full on few most d plain =
      let all : 0 + s.rows ≤ length g.rows = omega (arith, full.height) in
      let most_rows : length g.rows ≤ 65536 = omega (arith, full.height, few) in (
        tt,
        (
          tt,
          fit_two (rows_parts f g.rows 0 s.rows) (cursor_parts f s g)
              (rows_fit s g.rows 0 s.rows all most_rows most d plain full.width)
              (cursor_fits (is_waiting s g) s g full on few most d plain),
        ),
      )

  -- ---- texts that lead to it

  rest_fits : (s : Size) (r n : ℕ) (xs : List Cell) → s.columns ≤ 65536 → r < 65536
      → n < length xs → AreDrawn xs → LookPlain f xs → length xs ≡ s.columns
      → AllFit (rest_parts f r n xs)
  rest_fits s r n xs most less inside d plain wide =
      let rest : length (drop n xs) ≡ length xs - n = length-drop n xs in
      let few : n + length (drop n xs) ≤ 65536 = omega (arith, rest, inside, wide, most) in (
        (less, omega (arith, inside, wide, most)),
        (
          tt,
          cells_fit r (drop n xs) less (drawn_drop n xs d) (plain_drop n xs plain) n true few,
        ),
      )

  row_changes_fit : (e : ℕ → Look) (s : Size) (r : ℕ) (xs ys : List Cell) → s.columns ≤ 65536
      → r < 65536 → AreDrawn ys → LookPlain f ys → length ys ≡ s.columns
      → AllFit (row_changes e f r xs ys)
  row_changes_fit e s r xs ys most less d plain wide = by_test (is_other e f xs ys) refl
    where
      by_test : (t : Bool) → is_other e f xs ys ≡ t
          → AllFit (if t then rest_parts f r (same_cells e f xs ys) ys else [])
      by_test true is =
          let inside : same_cells e f xs ys < length ys = grind (arith, nat_tests) in
          rest_fits s r (same_cells e f xs ys) ys most less inside d plain wide
      by_test false is = tt

  change_fits : (e : ℕ → Look) (s : Size) (r : ℕ) (xs : List Cell) (yss : List (List Cell)) (i : ℕ)
      → i < length yss → s.columns ≤ 65536 → r < 65536 → AllDrawn yss → AllLookPlain f yss
      → AreWide s.columns yss → AllFit (row_changes e f r xs (get_or yss i []))
  change_fits e s r xs [] i inside most less d plain wide = absurd (omega (arith, inside))
  change_fits e s r xs (ys ∷ yss) zero inside most less d plain wide =
      row_changes_fit e s r xs ys most less d.0 plain.0 wide.0
  change_fits e s r xs (ys ∷ yss) (suc i) inside most less d plain wide =
      change_fits e s r xs yss i (omega (arith, inside)) most less d.1 plain.1 wide.1

  changes_fit : (e : ℕ → Look) (s : Size) (xss yss : List (List Cell)) (r n : ℕ)
      → r + n ≤ length yss → length yss ≤ 65536 → s.columns ≤ 65536 → AllDrawn yss
      → AllLookPlain f yss → AreWide s.columns yss → AllFit (rows_changes e f xss yss r n)
  changes_fit e s xss yss r zero all few most d plain wide = tt
  changes_fit e s xss yss r (suc n) all few most d plain wide =
      fit_two (row_changes e f r (get_or xss r []) (get_or yss r []))
      (rows_changes e f xss yss (r + 1) n)
      (change_fits e s r (get_or xss r []) yss r (omega (arith, all)) most
      (omega (arith, all, few)) d plain wide)
      (changes_fit e s xss yss (r + 1) n (omega (arith, all)) few most d plain wide)

  pub led_fits : (e : ℕ → Look) (s : Size) (xss : List (List Cell)) (g : Grid) → IsFull s g.rows
      → IsOn s g.cursor → s.rows ≤ 65536 → s.columns ≤ 65536 → AllDrawn g.rows
      → AllLookPlain f g.rows
      → AllFit (soft_reset ∷ (rows_changes e f xss g.rows 0 s.rows ++ cursor_parts f s g))
  led_fits e s xss g full on few most d plain =
      let all : 0 + s.rows ≤ length g.rows = omega (arith, full.height) in
      let most_rows : length g.rows ≤ 65536 = omega (arith, full.height, few) in (
        tt,
        fit_two (rows_changes e f xss g.rows 0 s.rows) (cursor_parts f s g)
            (changes_fit e s xss g.rows 0 s.rows all most_rows most d plain full.width)
            (cursor_fits (is_waiting s g) s g full on few most d plain),
      )
