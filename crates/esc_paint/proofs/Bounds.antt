-- The length of a painting, and of the text that leads from one screen to another.
use Rattle.std.proofs.Common.{ℕ, zero, suc, ◌≡◌, ◌+◌, ◌*◌, ◌<◌, ◌≤◌, Bool, true, false, List, [], ◌∷◌, ◌++◌, length, drop, get_or, Option, None, Some, if◌then◌else◌, sym, subst, ◌∙◌, length-append, arith}
use Rattle.std.specs.Char.{encode_utf8}
use Rattle.std.specs.Fmt.{decimal}
use Rattle.std.proofs.Math.Nat.{suc-mul}
use Rattle.std.proofs.lemmas.Fmt.{length-decimal-le}
use Rattle.std.proofs.lemmas.List.{length-drop}
use Rattle.std.proofs.lemmas.Str.{len_utf8_bounds, length-encode}
use Rattle.esc_style.specs.Looks.{plain_look}
use Rattle.esc_style.specs.declared.look.Look.{Look}
use Rattle.esc_screen.specs.Grids.{Grid, Size, row_of_cursor}
use Rattle.esc_screen.specs.Sound.{AreWide, IsFull, IsOn}
use Rattle.esc_screen.specs.declared.cell.Cell.{Cell}
use Rattle.esc_screen.specs.declared.content.Content.{Content}
use Rattle.esc_screen.specs.declared.content.Content.TheVariants as content
use Rattle.esc_screen.specs.declared.marks.Marks.{Marks}
use Rattle.esc_paint.specs.Parts.{Part, character, erase_all, erase_right, look, part_text, parts_text, place, soft_reset}
use Rattle.esc_paint.specs.Painting.{cells_parts, content_parts, cursor_parts, drawn_parts, is_waiting, marks_parts, paint_parts, painting_text, pen_by, row_again, row_parts, rows_parts}
use Rattle.esc_paint.specs.Differences.{change_parts, here_pen, is_other, rest_parts, row_changes, rows_changes, same_cells, same_screen, same_size}
use Rattle.esc_paint.specs.Laws.{AllLookPlain, IsBounded, IsPaintable, LookPlain}
use Rattle.esc_paint.proofs.Parts.{AllFit, Fits}
use Rattle.esc_paint.proofs.Plain.{led_fits, paint_fits, plain_drop, plain_pen}

-- ---- the text of a part

decimal_short : (r : ℕ) → r < 65536 → length (decimal (r + 1)) ≤ 5
decimal_short r h =
    length-decimal-le 5 (r + 1) (omega arith) (omega (arith, h)) (omega (arith, h))

character_short : (c : ℕ) → length (encode_utf8 c) ≤ 4
character_short c = omega (arith, length-encode c, (len_utf8_bounds c).1)

place_short : (r n : ℕ) → r < 65536 → n < 65536 → length (part_text (place r n)) ≤ 14
place_short r n below before =
    let a = decimal (r + 1) in
    let b = decimal (n + 1) in
    let first = length-append a (0x3b ∷ (b ++ 0x48 ∷ [])) in
    let second = length-append b (0x48 ∷ []) in
    let row = decimal_short r below in
    let column = decimal_short n before in
    omega (arith, first, second, row, column)

part_short : (p : Part) → Fits p → length (part_text p) ≤ 14
part_short soft_reset h = omega arith
part_short erase_all h = omega arith
part_short erase_right h = omega arith
part_short (place r n) h = place_short r n h.0 h.1
part_short (character c) h = omega (arith, character_short c)
part_short (look l) h = absurd h

parts_short : (ps : List Part) → AllFit ps → length (parts_text ps) ≤ 14 * length ps
parts_short [] h = omega arith
parts_short (p ∷ ps) h =
    let both = length-append (part_text p) (parts_text ps) in
    let first = part_short p h.0 in
    let rest = parts_short ps h.1 in
    omega (arith, both, first, rest)

-- ---- how many parts: at most five are of a cell

mark_few : (a b : Option ℕ) (o : Bool) → length (marks_parts (record {
  first = a;
  second = b;
  others = o;
})) ≤ 3
mark_few None None true = omega arith
mark_few None None false = omega arith
mark_few None (Some b) true = omega arith
mark_few None (Some b) false = omega arith
mark_few (Some a) None true = omega arith
mark_few (Some a) None false = omega arith
mark_few (Some a) (Some b) true = omega arith
mark_few (Some a) (Some b) false = omega arith

drawn_few : (b : Bool) (r n c : ℕ) (m : Marks)
    → length (drawn_parts r n (plain_pen b) c m plain_look) ≤ 5
drawn_few true r n c m =
    let few : length (marks_parts m) ≤ 3 = mark_few m.first m.second m.others in
    omega (arith, few)
drawn_few false r n c m =
    let few : length (marks_parts m) ≤ 3 = mark_few m.first m.second m.others in
    omega (arith, few)

module _ (f : ℕ → Look) where
  abbrev Few : ℕ → List Cell → Type 0
  Few r xs = (n : ℕ) (b : Bool)
      → length (cells_parts f r n (plain_pen b) xs) ≤ 5 * length xs

  drawn_then : (r c : ℕ) (m : Marks) (xs : List Cell) → Few r xs → (n : ℕ) (b : Bool)
      → length (drawn_parts r n (plain_pen b) c m plain_look
      ++ cells_parts f r (n + 1) (plain_pen true) xs) ≤ 5 * suc (length xs)
  drawn_then r c m xs rest n b =
      let both = length-append (drawn_parts r n (plain_pen b) c m plain_look)
      (cells_parts f r (n + 1) (plain_pen true) xs) in
      let first = drawn_few b r n c m in
      let others = rest (n + 1) true in
      omega (arith, both, first, others)

  cell_few : (r : ℕ) (c : Content) (xs : List Cell) → Few r xs → (n : ℕ) (b : Bool)
      → length (content_parts r n (plain_pen b) plain_look c
      ++ cells_parts f r (n + 1) (pen_by (plain_pen b) plain_look c) xs) ≤ 5 * suc (length xs)
  cell_few r content.Blank xs rest n b =
      let others = rest (n + 1) false in
      omega (arith, others)
  cell_few r (content.Narrow c m) xs rest n b = drawn_then r c m xs rest n b
  cell_few r (content.Wide c m) xs rest n b = drawn_then r c m xs rest n b
  cell_few r content.Rest xs rest n b =
      let others = rest (n + 1) b in
      omega (arith, others)

  cells_few : (r : ℕ) (xs : List Cell) → LookPlain f xs → Few r xs
  cells_few r [] plain n b = omega arith
  cells_few r (x ∷ xs) plain n b =
      subst (λ l. length (content_parts r n (plain_pen b) l x.content
      ++ cells_parts f r (n + 1) (pen_by (plain_pen b) l x.content) xs) ≤ 5 * suc (length xs))
      (sym plain.0) (cell_few r x.content xs (cells_few r xs plain.1) n b)

  -- ---- rows

  row_few : (s : Size) (r : ℕ) (xs : List Cell) → LookPlain f xs → length xs ≡ s.columns
      → length (row_parts f r xs) ≤ 5 * s.columns + 2
  row_few s r xs plain wide =
      let few : length (row_parts f r xs) ≤ 5 * length xs = cells_few r xs plain 0 false in
      omega (arith, few, wide)

  change_few : (e : ℕ → Look) (s : Size) (r : ℕ) (xs ys : List Cell) → LookPlain f ys
      → length ys ≡ s.columns → length (row_changes e f r xs ys) ≤ 5 * s.columns + 2
  change_few e s r xs ys plain wide = by_test (is_other e f xs ys)
    where
      by_test : (t : Bool) → length (if t then rest_parts f r (same_cells e f xs ys) ys else [])
          ≤ 5 * s.columns + 2
      by_test true =
          let rest = length-drop (same_cells e f xs ys) ys in
          let few : length (cells_parts f r (same_cells e f xs ys) here_pen
          (drop (same_cells e f xs ys) ys)) ≤ 5 * length (drop (same_cells e f xs ys) ys) =
          cells_few r (drop (same_cells e f xs ys) ys)
          (plain_drop f (same_cells e f xs ys) ys plain) (same_cells e f xs ys) true in
          omega (arith, rest, few, wide)
      by_test false = omega arith

  get_few : (s : Size) (r : ℕ) (xss : List (List Cell)) (i : ℕ) → i < length xss
      → AllLookPlain f xss → AreWide s.columns xss
      → (LookPlain f (get_or xss i [])) × (length (get_or xss i []) ≡ s.columns)
  get_few s r [] i inside plain wide = absurd (omega (arith, inside))
  get_few s r (xs ∷ xss) zero inside plain wide = (plain.0, wide.0)
  get_few s r (xs ∷ xss) (suc i) inside plain wide =
      get_few s r xss i (omega (arith, inside)) plain.1 wide.1

  one_more : (n k a b : ℕ) → a ≤ k → b ≤ n * k → a + b ≤ suc n * k
  one_more n k a b h e =
      let m = n * k in
      let all : suc n * k ≡ m + k = suc-mul n k in
      omega (arith, all, h, e)

  rows_few : (s : Size) (xss : List (List Cell)) (r n : ℕ) → r + n ≤ length xss
      → AllLookPlain f xss → AreWide s.columns xss
      → length (rows_parts f xss r n) ≤ n * (5 * s.columns + 2)
  rows_few s xss r zero all plain wide = omega arith
  rows_few s xss r (suc n) all plain wide =
      let g = get_few s r xss r (omega (arith, all)) plain wide in
      let first = row_parts f r (get_or xss r []) in
      let rest = rows_parts f xss (r + 1) n in
      let both = length-append first rest in
      subst (λ i. i ≤ suc n * (5 * s.columns + 2)) (sym both)
      (one_more n (5 * s.columns + 2) (length first) (length rest)
      (row_few s r (get_or xss r []) g.0 g.1)
      (rows_few s xss (r + 1) n (omega (arith, all)) plain wide))

  changes_few : (e : ℕ → Look) (s : Size) (xss yss : List (List Cell)) (r n : ℕ)
      → r + n ≤ length yss → AllLookPlain f yss → AreWide s.columns yss
      → length (rows_changes e f xss yss r n) ≤ n * (5 * s.columns + 2)
  changes_few e s xss yss r zero all plain wide = omega arith
  changes_few e s xss yss r (suc n) all plain wide =
      let g = get_few s r yss r (omega (arith, all)) plain wide in
      let first = row_changes e f r (get_or xss r []) (get_or yss r []) in
      let rest = rows_changes e f xss yss (r + 1) n in
      let both = length-append first rest in
      subst (λ i. i ≤ suc n * (5 * s.columns + 2)) (sym both)
      (one_more n (5 * s.columns + 2) (length first) (length rest)
      (change_few e s r (get_or xss r []) (get_or yss r []) g.0 g.1)
      (changes_few e s xss yss (r + 1) n (omega (arith, all)) plain wide))

  -- ---- all of it

  cursor_few : (t : Bool) (s : Size) (g : Grid) → IsFull s g.rows → IsOn s g.cursor
      → AllLookPlain f g.rows
      → length (if t then row_again f g.cursor.row (row_of_cursor g)
      else place g.cursor.row g.cursor.column ∷ []) ≤ 5 * s.columns + 2
  cursor_few true s g full on plain =
      let inside : g.cursor.row < length g.rows = omega (arith, on.row, full.height) in
      let h = get_few s 0 g.rows g.cursor.row inside plain full.width in
      let few : length (row_parts f g.cursor.row (row_of_cursor g))
      ≤ 5 * length (row_of_cursor g) =
      cells_few g.cursor.row (row_of_cursor g) h.0 0 false in
      let wide : length (row_of_cursor g) ≡ s.columns = h.1 in
      omega (arith, few, wide)
  cursor_few false s g full on plain = omega arith

  both_few : (s : Size) (a b : List Part) → length a ≤ s.rows * (5 * s.columns + 2)
      → length b ≤ 5 * s.columns + 2
      → length (a ++ b) ≤ (s.rows + 1) * (5 * s.columns + 2)
  both_few s a b h e =
      let k = 5 * s.columns + 2 in
      let one : suc s.rows ≡ s.rows + 1 = omega arith in
      let both : length (a ++ b) ≡ length b + length a = length-append a b ∙ omega arith in
      subst (λ i. length (a ++ b) ≤ i * k) one
      (subst (λ i. i ≤ suc s.rows * k) (sym both)
      (one_more s.rows k (length b) (length a) e h))

  paint_few : (s : Size) (g : Grid) → IsFull s g.rows → IsOn s g.cursor
      → AllLookPlain f g.rows
      → length (paint_parts f s g) ≤ (s.rows + 1) * (5 * s.columns + 2) + 2
  paint_few s g full on plain =
      let all : 0 + s.rows ≤ length g.rows = omega (arith, full.height) in
      let m = (s.rows + 1) * (5 * s.columns + 2) in
      let few : length (rows_parts f g.rows 0 s.rows ++ cursor_parts f s g) ≤ m =
      both_few s (rows_parts f g.rows 0 s.rows) (cursor_parts f s g)
      (rows_few s g.rows 0 s.rows all plain full.width)
      (cursor_few (is_waiting s g) s g full on plain) in
      omega (arith, few)

  led_few : (e : ℕ → Look) (s : Size) (xss : List (List Cell)) (g : Grid) → IsFull s g.rows
      → IsOn s g.cursor → AllLookPlain f g.rows
      → length (soft_reset ∷ (rows_changes e f xss g.rows 0 s.rows ++ cursor_parts f s g))
      ≤ (s.rows + 1) * (5 * s.columns + 2) + 2
  led_few e s xss g full on plain =
      let all : 0 + s.rows ≤ length g.rows = omega (arith, full.height) in
      let m = (s.rows + 1) * (5 * s.columns + 2) in
      let few : length (rows_changes e f xss g.rows 0 s.rows ++ cursor_parts f s g) ≤ m =
      both_few s (rows_changes e f xss g.rows 0 s.rows) (cursor_parts f s g)
      (changes_few e s xss g.rows 0 s.rows all plain full.width)
      (cursor_few (is_waiting s g) s g full on plain) in
      omega (arith, few)

-- ---- the law

scaled : (a n m : ℕ) → a ≤ 14 * n → n ≤ m → a ≤ 14 * m
scaled a n m h e = omega (arith, h, e)

-- the text of parts that fit, and are so few
text_short : (ps : List Part) (m : ℕ) → AllFit ps → length ps ≤ m
    → length (parts_text ps) ≤ 14 * m
text_short ps m fits few =
    scaled (length (parts_text ps)) (length ps) m (parts_short ps fits) few

abbrev most : Size → ℕ
most s = (s.rows + 1) * (5 * s.columns + 2) + 2

painted_short : (k : ℕ → Look) (s : Size) (h : Grid) → IsPaintable k s h
    → length (painting_text k s h) ≤ 14 * most s
painted_short k s h can =
    let on = can.sound.cursor in
    text_short (paint_parts k s h) (most s)
    (paint_fits k s h can.sound.rows on can.size.0 can.size.1 can.drawn can.plain)
    (paint_few k s h can.sound.rows on can.plain)

led_short : (t : Bool) (f k : ℕ → Look) (s : Size) (xss : List (List Cell)) (h : Grid)
    → IsPaintable k s h
    → length (parts_text (if t then []
    else soft_reset ∷ (rows_changes f k xss h.rows 0 s.rows ++ cursor_parts k s h)))
    ≤ 14 * most s
led_short true f k s xss h can = omega arith
led_short false f k s xss h can =
    let on = can.sound.cursor in
    text_short (soft_reset ∷ (rows_changes f k xss h.rows 0 s.rows ++ cursor_parts k s h))
    (most s)
    (led_fits k f s xss h can.sound.rows on can.size.0 can.size.1 can.drawn can.plain)
    (led_few k f s xss h can.sound.rows on can.plain)

by_size : (t : Bool) (f k : ℕ → Look) (q s : Size) (g h : Grid) → IsPaintable k s h
    → length (if t then parts_text (change_parts f k q s g h) else painting_text k s h)
    ≤ 14 * most s
by_size true f k q s g h can = led_short (same_screen f k q s g h) f k s g.rows h can
by_size false f k q s g h can = painted_short k s h can

pub is_bounded : IsBounded
is_bounded = λ f k q s g h can. by_size (same_size q s) f k q s g h can
