-- The grid after a character that is printed.
use Rattle.std.proofs.Common.{ℕ, ◌≡◌, ◌+◌, ◌-◌, ◌==◌, Bool, true, false, List, ◌++◌, length, map, take, drop, if◌then◌else◌, refl, ap, sym, ◌∙◌, length-append, arith}
use Rattle.std.proofs.lemmas.List.{length-map, length-set, take-append-drop}
use Rattle.esc_screen.specs.Cells.{cleared_cells}
use Rattle.esc_screen.specs.Cursors.{drawn_character}
use Rattle.esc_screen.specs.Grids.{Grid, Size, line_fed, grid_at}
use Rattle.esc_screen.specs.Lists.{in_part, moved_up}
use Rattle.esc_screen.specs.Printing.{row_gone_on, narrow_printed, grid_with_room, grid_with_character, wrapped_grid}

-- ---- lengths

length_part : {X : Type 0} (m n : ℕ) (f : List X → List X) (xs : List X)
    → ((ys : List X) → length (f ys) ≡ length ys) → length (in_part m n f xs) ≡ length xs
length_part m n f xs h =
    let a = take (n - m) (drop m xs) in
    let b = drop (n - m) (drop m xs) in
    length-append (take m xs) (f a ++ b)
    ∙ ap (λ k. length (take m xs) + k) (length-append (f a) b ∙ ap (λ k. k + length b) (h a)
    ∙ sym (length-append a b) ∙ ap length (take-append-drop (n - m) (drop m xs)))
    ∙ sym (length-append (take m xs) (drop m xs)) ∙ ap length (take-append-drop m xs)

swapped_sum : (a b : ℕ) → a + b ≡ b + a
swapped_sum a b = omega arith

length_up : {X : Type 0} (n : ℕ) (f : List X → List X) (xs : List X)
    → ((ys : List X) → length (f ys) ≡ length ys) → length (moved_up n f xs) ≡ length xs
length_up n f xs h =
    length-append (drop n xs) (f (take n xs))
    ∙ ap (λ k. length (drop n xs) + k) (h (take n xs))
    ∙ swapped_sum (length (drop n xs)) (length (take n xs))
    ∙ sym (length-append (take n xs) (drop n xs)) ∙ ap length (take-append-drop n xs)

-- ---- grids

-- as many rows, and all else as it was but the cursor
pub record IsKept (g h : Grid) : Type 0 where
  pub count : length h.rows ≡ length g.rows
  pub rest : h ≡ record g { rows = h.rows; cursor = h.cursor }

kept_then : (g h k : Grid) → IsKept g h → IsKept h k → IsKept g k
kept_then g h k a b = record {
  count = b.count ∙ a.count;
  rest = b.rest ∙ ap as_last a.rest;
}
  where
    as_last : Grid → Grid
    as_last z = record z { rows = k.rows; cursor = k.cursor }

kept_if : (b : Bool) (g x y : Grid) → IsKept g x → IsKept g y → IsKept g (if b then x else y)
kept_if true g x y h k = h
kept_if false g x y h k = k

kept_same : (g : Grid) → IsKept g g
kept_same g = record {
  count = refl;
  rest = refl;
}

kept_moved : (r n : ℕ) (g : Grid) → IsKept g (grid_at r n g)
kept_moved r n g = record {
  count = refl;
  rest = refl;
}

kept_fed : (s : Size) (g : Grid) → IsKept g (line_fed s g)
kept_fed s g = kept_if (g.cursor.row + 1 == g.bottom) g _ _
    (record {
      count = length_part g.top g.bottom (moved_up 1 (map (cleared_cells g.cursor.erased))) g.rows
          (λ xs. length_up 1 (map (cleared_cells g.cursor.erased)) xs
          (λ ys. length-map ys (cleared_cells g.cursor.erased)));
      rest = refl;
    })
    (record {
      count = refl;
      rest = refl;
    })

kept_joined : (g : Grid) → IsKept g (row_gone_on g)
kept_joined g = record {
  count = length-set g.rows g.cursor.row _;
  rest = refl;
}

kept_wrapped : (s : Size) (g : Grid) → IsKept g (wrapped_grid s g)
kept_wrapped s g = let f = line_fed s (row_gone_on g) in kept_if g.cursor.pending g _ _
    (kept_if g.modes.wraps g _ _
    (kept_then g (row_gone_on g) _ (kept_joined g)
    (kept_then (row_gone_on g) f _ (kept_fed s (row_gone_on g)) (kept_moved f.cursor.row 0 f)))
    (kept_moved g.cursor.row g.cursor.column g))
    (kept_same g)

kept_opened : (s : Size) (n : ℕ) (g : Grid) → IsKept g (grid_with_room s n g)
kept_opened s n g = kept_if g.modes.inserts g _ _
    (record {
      count = length-set g.rows g.cursor.row _;
      rest = refl;
    })
    (kept_same g)

kept_printed : (s : Size) (c : ℕ) (g : Grid) → IsKept g (grid_with_character s c g)
kept_printed s c g = record {
  count = length-set g.rows g.cursor.row _;
  rest = refl;
}

pub kept_narrow : (s : Size) (c : ℕ) (g : Grid) → IsKept g (narrow_printed s c g)
kept_narrow s c g =
    let w = wrapped_grid s g in
    let o = grid_with_room s 1 w in
    kept_then g w _ (kept_wrapped s g)
    (kept_then w o _ (kept_opened s 1 w) (kept_printed s (drawn_character w.cursor c) o))
