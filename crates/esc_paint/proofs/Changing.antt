-- The text that leads from one screen to another, part by part.
use Rattle.std.proofs.Common.{ℕ, suc, ◌≡◌, ◌+◌, ◌-◌, ◌<◌, ◌≤◌, nat_lt, true, false, not, ◌&&◌, if◌then◌else◌, List, [], ◌∷◌, ◌++◌, length, drop, get_or, ap, sym, ◌∙◌, append_assoc, arith}
use Rattle.std.proofs.lemmas.Bool.Decides.{nat_tests}
use Rattle.esc_style.specs.declared.look.Look.{Look}
use Rattle.esc_screen.specs.Grids.{Grid, Size}
use Rattle.esc_screen.specs.declared.cell.Cell.{Cell}
use Rattle.esc_paint.specs.Parts.{erase_right, part_text, parts_text, place, soft_reset}
use Rattle.esc_paint.specs.Painting.{cells_parts, cursor_parts, painting_text}
use Rattle.esc_paint.specs.Differences.{change_parts, difference, here_pen, is_other, rest_parts, row_changes, rows_changes, same_cells, same_rows, same_screen, same_size}
use Rattle.esc_paint.proofs.Writing.{parts_two}

-- ---- a row

pub row_text : (f k : ℕ → Look) (r n : ℕ) (xs ys : List Cell) → n ≡ same_cells f k xs ys
    → n < length ys
    → parts_text (row_changes f k r xs ys)
    ≡ part_text (place r n)
    ++ (part_text erase_right ++ parts_text (cells_parts k r n here_pen (drop n ys)))
row_text f k r n xs ys is less =
    let test : nat_lt n (length ys) ≡ true = grind (arith, nat_tests) in
    ap (λ i. parts_text (if nat_lt i (length ys) then rest_parts k r i ys else [])) (sym is)
    ∙ ap (λ t. parts_text (if t then rest_parts k r n ys else [])) test

pub row_none : (f k : ℕ → Look) (r n : ℕ) (xs ys : List Cell) → n ≡ same_cells f k xs ys
    → length ys ≤ n → parts_text (row_changes f k r xs ys) ≡ []
row_none f k r n xs ys is all =
    let test : nat_lt n (length ys) ≡ false = grind (arith, nat_tests) in
    ap (λ i. parts_text (if nat_lt i (length ys) then rest_parts k r i ys else [])) (sym is)
    ∙ ap (λ t. parts_text (if t then rest_parts k r n ys else [])) test

-- ---- rows

pub changes_more : (f k : ℕ → Look) (t : List ℕ) (r n : ℕ) (xss yss : List (List Cell)) → r < n
    → (t ++ parts_text (row_changes f k r (get_or xss r []) (get_or yss r [])))
    ++ parts_text (rows_changes f k xss yss (r + 1) (n - (r + 1)))
    ≡ t ++ parts_text (rows_changes f k xss yss r (n - r))
changes_more f k t r n xss yss less =
    let first = row_changes f k r (get_or xss r []) (get_or yss r []) in
    let rest = rows_changes f k xss yss (r + 1) (n - (r + 1)) in
    let one : suc (n - (r + 1)) ≡ n - r = omega arith in
    append_assoc t (parts_text first) (parts_text rest)
    ∙ ap (λ z. t ++ z) (sym (parts_two first rest))
    ∙ ap (λ i. t ++ parts_text (rows_changes f k xss yss r i)) one

pub same_row_more : (f k : ℕ → Look) (r n : ℕ) (xss yss : List (List Cell)) → r < n
    → is_other f k (get_or xss r []) (get_or yss r []) ≡ false
    → same_rows f k xss yss r (n - r) ≡ same_rows f k xss yss (r + 1) (n - (r + 1))
same_row_more f k r n xss yss less is =
    let one : n - r ≡ suc (n - (r + 1)) = omega arith in
    ap (same_rows f k xss yss r) one
    ∙ ap (λ t. not t && same_rows f k xss yss (r + 1) (n - (r + 1))) is

pub other_row : (f k : ℕ → Look) (r n : ℕ) (xss yss : List (List Cell)) → r < n
    → is_other f k (get_or xss r []) (get_or yss r []) ≡ true
    → same_rows f k xss yss r (n - r) ≡ false
other_row f k r n xss yss less is =
    let one : n - r ≡ suc (n - (r + 1)) = omega arith in
    ap (same_rows f k xss yss r) one
    ∙ ap (λ t. not t && same_rows f k xss yss (r + 1) (n - (r + 1))) is

-- ---- all of it

pub other_size : (f k : ℕ → Look) (q s : Size) (g h : Grid) → same_size q s ≡ false
    → difference f k q s g h ≡ painting_text k s h
other_size f k q s g h is =
    ap (λ t. if t then parts_text (change_parts f k q s g h) else painting_text k s h) is

pub none_text : (f k : ℕ → Look) (q s : Size) (g h : Grid) → same_size q s ≡ true
    → same_screen f k q s g h ≡ true → difference f k q s g h ≡ []
none_text f k q s g h is all =
    ap (λ t. if t then parts_text (change_parts f k q s g h) else painting_text k s h) is
    ∙ ap (λ t. parts_text (if t then [] else soft_reset
    ∷ (rows_changes f k g.rows h.rows 0 s.rows ++ cursor_parts k s h))) all

pub some_text : (f k : ℕ → Look) (q s : Size) (g h : Grid) (t : List ℕ) → same_size q s ≡ true
    → same_screen f k q s g h ≡ false
    → ((t ++ part_text soft_reset) ++ parts_text (rows_changes f k g.rows h.rows 0 s.rows))
    ++ parts_text (cursor_parts k s h)
    ≡ t ++ difference f k q s g h
some_text f k q s g h t is other =
    let rows = rows_changes f k g.rows h.rows 0 s.rows in
    let last = cursor_parts k s h in
    append_assoc (t ++ part_text soft_reset) (parts_text rows) (parts_text last)
    ∙ append_assoc t (part_text soft_reset) (parts_text rows ++ parts_text last)
    ∙ ap (λ z. t ++ (part_text soft_reset ++ z)) (sym (parts_two rows last))
    ∙ ap (λ b. t ++ parts_text (if b then [] else soft_reset ∷ (rows ++ last))) (sym other)
    ∙ ap (λ b. t ++ (if b then parts_text (change_parts f k q s g h) else painting_text k s h))
    (sym is)
