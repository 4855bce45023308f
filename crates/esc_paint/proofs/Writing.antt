-- The text of parts, one after another.
use Rattle.std.proofs.Common.{ℕ, suc, ◌≡◌, ◌+◌, ◌-◌, ◌<◌, ◌≤◌, Bool, true, false, if◌then◌else◌, List, [], ◌∷◌, ◌++◌, length, drop, get_or, None, Some, refl, ap, sym, ◌∙◌, append_assoc, append-nil, arith}
use Rattle.std.specs.Char.{encode_utf8}
use Rattle.std.proofs.lemmas.List.{drop_all, drop_more}
use Rattle.esc_style.specs.Looks.{plain_look}
use Rattle.esc_style.specs.declared.look.Look.{Look}
use Rattle.esc_sgr.specs.Sgr.{change_text, look_text, same_look}
use Rattle.esc_screen.specs.Grids.{Grid, Size, row_of_cursor}
use Rattle.esc_screen.specs.declared.cell.Cell.{Cell}
use Rattle.esc_screen.specs.declared.marks.Marks.{Marks}
use Rattle.esc_paint.specs.declared.pen.Pen.{Pen}
use Rattle.esc_paint.specs.Parts.{Part, character, erase_all, erase_right, look, part_text, parts_text, place, soft_reset}
use Rattle.esc_paint.specs.Painting.{blank_parts, cells_parts, content_parts, cursor_parts, drawn_parts, is_waiting, look_change, mark_parts, marks_parts, painting_text, pen_by, place_change, row_again, row_parts, rows_parts}

pub parts_two : (ps qs : List Part) → parts_text (ps ++ qs) ≡ parts_text ps ++ parts_text qs
parts_two [] qs = refl
parts_two (p ∷ ps) qs = ap (λ z. part_text p ++ z) (parts_two ps qs)
    ∙ sym (append_assoc (part_text p) (parts_text ps) (parts_text qs))

pub one_part : (p : Part) → parts_text (p ∷ []) ≡ part_text p
one_part p = append-nil (part_text p)

pub looked_text : (a b : Look) → parts_text (look_change a b) ≡ change_text a b
looked_text a b = by_test (same_look a b)
  where
    by_test : (t : Bool) → parts_text (if t then [] else look b ∷ [])
        ≡ (if t then [] else look_text b)
    by_test true = refl
    by_test false = one_part (look b)

pub mark_is : (c : ℕ) → parts_text (mark_parts (Some c)) ≡ encode_utf8 c
mark_is c = one_part (character c)

-- two marks, and the first again
pub marks_text : (m : Marks) → parts_text (marks_parts m)
    ≡ parts_text (mark_parts m.first) ++ (parts_text (mark_parts m.second)
    ++ parts_text (mark_parts (if m.others then m.first else None)))
marks_text m =
    parts_two (mark_parts m.first)
    (mark_parts m.second ++ (if m.others then mark_parts m.first else []))
    ∙ ap (λ z. parts_text (mark_parts m.first) ++ z)
    (parts_two (mark_parts m.second) (if m.others then mark_parts m.first else [])
    ∙ ap (λ z. parts_text (mark_parts m.second) ++ parts_text z) (by_test m.others))
  where
    by_test : (t : Bool) → (if t then mark_parts m.first else [])
        ≡ mark_parts (if t then m.first else None)
    by_test true = refl
    by_test false = refl

pub drawn_text : (r n : ℕ) (p : Pen) (c : ℕ) (m : Marks) (l : Look)
    → parts_text (drawn_parts r n p c m l)
    ≡ parts_text (place_change p.here r n) ++ (parts_text (look_change p.look l)
    ++ (encode_utf8 c ++ parts_text (marks_parts m)))
drawn_text r n p c m l =
    parts_two (place_change p.here r n) (look_change p.look l ++ (character c ∷ marks_parts m))
    ∙ ap (λ z. parts_text (place_change p.here r n) ++ z)
    (parts_two (look_change p.look l) (character c ∷ marks_parts m))

pub blank_text : (r n : ℕ) (p : Pen) (b : Look) → same_look p.back b ≡ false
    → parts_text (blank_parts r n p b)
    ≡ parts_text (place_change p.here r n) ++ (parts_text (look_change p.look b)
    ++ (0x1b ∷ 0x5b ∷ 0x4b ∷ []))
blank_text r n p b h =
    ap (λ t. parts_text (if t then [] else place_change p.here r n ++ (look_change p.look b
    ++ (erase_right ∷ [])))) h
    ∙ parts_two (place_change p.here r n) (look_change p.look b ++ (erase_right ∷ []))
    ∙ ap (λ z. parts_text (place_change p.here r n) ++ z)
    (parts_two (look_change p.look b) (erase_right ∷ []))

pub blank_none : (r n : ℕ) (p : Pen) (b : Look) → same_look p.back b ≡ true
    → parts_text (blank_parts r n p b) ≡ []
blank_none r n p b h =
    ap (λ t. parts_text (if t then [] else place_change p.here r n ++ (look_change p.look b
    ++ (erase_right ∷ [])))) h

-- ---- a cell more, and a row more

pub cell_more : (f : ℕ → Look) (t : List ℕ) (r i : ℕ) (p : Pen) (xs : List Cell) (d : Cell)
    → i < length xs → (x : Cell) → x ≡ get_or xs i d
    → (t ++ parts_text (content_parts r i p (f x.look) x.content))
    ++ parts_text (cells_parts f r (i + 1) (pen_by p (f x.look) x.content) (drop (i + 1) xs))
    ≡ t ++ parts_text (cells_parts f r i p (drop i xs))
cell_more f t r i p xs d less x is =
    let first = content_parts r i p (f x.look) x.content in
    let rest = cells_parts f r (i + 1) (pen_by p (f x.look) x.content) (drop (i + 1) xs) in
    append_assoc t (parts_text first) (parts_text rest)
    ∙ ap (λ z. t ++ z) (sym (parts_two first rest)
    ∙ ap (λ z. parts_text (cells_parts f r i p z))
    (ap (λ y. y ∷ drop (i + 1) xs) is ∙ sym (drop_more xs i d less)))

pub cells_end : (f : ℕ → Look) (t : List ℕ) (r i : ℕ) (p : Pen) (xs : List Cell)
    → length xs ≤ i
    → t ++ parts_text (look_change p.look plain_look)
    ≡ t ++ parts_text (cells_parts f r i p (drop i xs))
cells_end f t r i p xs all =
    ap (λ z. t ++ parts_text (cells_parts f r i p z)) (sym (drop_all i xs all))

pub row_more : (f : ℕ → Look) (t : List ℕ) (r n : ℕ) (xss : List (List Cell)) → r < n
    → (t ++ parts_text (row_parts f r (get_or xss r [])))
    ++ parts_text (rows_parts f xss (r + 1) (n - (r + 1)))
    ≡ t ++ parts_text (rows_parts f xss r (n - r))
row_more f t r n xss less =
    let first = row_parts f r (get_or xss r []) in
    let rest = rows_parts f xss (r + 1) (n - (r + 1)) in
    let one : suc (n - (r + 1)) ≡ n - r = omega arith in
    append_assoc t (parts_text first) (parts_text rest)
    ∙ ap (λ z. t ++ z) (sym (parts_two first rest))
    ∙ ap (λ k. t ++ parts_text (rows_parts f xss r k)) one

pub rows_end : (f : ℕ → Look) (t : List ℕ) (r n : ℕ) (xss : List (List Cell)) → n ≤ r
    → t ≡ t ++ parts_text (rows_parts f xss r (n - r))
rows_end f t r n xss all =
    let none : 0 ≡ n - r = omega arith in
    sym (append-nil t) ∙ ap (λ k. t ++ parts_text (rows_parts f xss r k)) none

-- ---- the cursor

cursor_by : (f : ℕ → Look) (s : Size) (g : Grid) (b : Bool) → is_waiting s g ≡ b
    → cursor_parts f s g
    ≡ (if b then row_again f g.cursor.row (row_of_cursor g)
    else place g.cursor.row g.cursor.column ∷ [])
cursor_by f s g b h = ap (λ t. if t then row_again f g.cursor.row (row_of_cursor g)
    else place g.cursor.row g.cursor.column ∷ []) h

pub cursor_again : (f : ℕ → Look) (s : Size) (g : Grid) → is_waiting s g ≡ true
    → parts_text (cursor_parts f s g)
    ≡ part_text (place g.cursor.row 0)
    ++ (part_text erase_right ++ parts_text (row_parts f g.cursor.row (row_of_cursor g)))
cursor_again f s g h = ap parts_text (cursor_by f s g true h)

pub cursor_there : (f : ℕ → Look) (s : Size) (g : Grid) → is_waiting s g ≡ false
    → parts_text (cursor_parts f s g) ≡ part_text (place g.cursor.row g.cursor.column)
cursor_there f s g h = ap parts_text (cursor_by f s g false h)
    ∙ one_part (place g.cursor.row g.cursor.column)

-- ---- all of it

pub paint_text : (f : ℕ → Look) (s : Size) (g : Grid) (t : List ℕ)
    → ((t ++ (part_text soft_reset ++ part_text erase_all))
    ++ parts_text (rows_parts f g.rows 0 s.rows)) ++ parts_text (cursor_parts f s g)
    ≡ t ++ painting_text f s g
paint_text f s g t =
    let a = part_text soft_reset ++ part_text erase_all in
    let rows = rows_parts f g.rows 0 s.rows in
    let last = cursor_parts f s g in
    append_assoc (t ++ a) (parts_text rows) (parts_text last)
    ∙ append_assoc t a (parts_text rows ++ parts_text last)
    ∙ ap (λ z. t ++ (a ++ z)) (sym (parts_two rows last))
