-- Rows of cells.
use Rattle.std.specs.Prelude.{ℕ, zero, suc, ◌+◌, ◌-◌, max, Bool, true, false, if◌then◌else◌, List, [], ◌∷◌, length, replicate, set, get_or, Option, Some, None}
use Rattle.esc_screen.specs.Lists.{in_part, moved_up, moved_down}
use Rattle.esc_screen.specs.declared.cell.Cell.{Cell}
use Rattle.esc_screen.specs.declared.content.Content.{Content}
use Rattle.esc_screen.specs.declared.content.Content.TheVariants as content
use Rattle.esc_screen.specs.declared.marks.Marks.{Marks}

-- ---- marks

abbrev pub no_marks : Marks
no_marks = record {
  first = None;
  second = None;
  others = false;
}

-- two are kept
abbrev pub more_marks : ℕ → Marks → Marks
more_marks c m = by_first m.first
  where
    by_second : Option ℕ → Marks
    by_second None = record m { second = Some c }
    by_second (Some d) = record m { others = true }

    by_first : Option ℕ → Marks
    by_first None = record m { first = Some c }
    by_first (Some d) = by_second m.second

-- ---- cells

abbrev pub cell : Content → ℕ → Cell
cell c l = record {
  content = c;
  look = l;
  joined = false;
}

-- a blank one that looks so
abbrev pub blank : ℕ → Cell
blank l = cell content.Blank l

-- a character of one column that looks so
abbrev pub drawn_cell : ℕ → ℕ → Cell
drawn_cell l c = cell (content.Narrow c no_marks) l

abbrev pub is_rest_content : Content → Bool
is_rest_content content.Rest = true
is_rest_content _ = false

abbrev pub is_rest : Cell → Bool
is_rest c = is_rest_content c.content

-- with one mark more on its character
abbrev pub marked_content : ℕ → Content → Content
marked_content c (content.Narrow d m) = content.Narrow d (more_marks c m)
marked_content c (content.Wide d m) = content.Wide d (more_marks c m)
marked_content c x = x

abbrev pub marked_cell : ℕ → Cell → Cell
marked_cell c x = record x { content = marked_content c x.content }

-- the last one of a row that goes on in the next one
abbrev pub joined_cell : Cell → Cell
joined_cell x = record x { joined = true }

-- ---- rows

-- whether a row goes on in the next one, as its last cell says
abbrev pub is_joined : List Cell → Bool
is_joined xs = (get_or xs (length xs - 1) (blank 0)).joined

-- it does, where a column is its last
abbrev pub joined_at : ℕ → List Cell → List Cell
joined_at n xs = set xs n (joined_cell (get_or xs n (blank 0)))

-- a row of so many blank cells
abbrev pub blank_row : ℕ → ℕ → List Cell
blank_row l n = replicate n (blank l)

-- cells of which each is this
abbrev pub filled_cells : Cell → List Cell → List Cell
filled_cells x xs = replicate (length xs) x

-- cells of which none has a character any more
abbrev pub cleared_cells : ℕ → List Cell → List Cell
cleared_cells l xs = filled_cells (blank l) xs

-- the cell at a column has no character any more
abbrev pub emptied_cells : ℕ → List Cell → List Cell
emptied_cells n xs = set xs n (blank (get_or xs n (blank 0)).look)

-- a row where no character stands on both sides of the left edge of a column: one that did is gone
abbrev pub cut_row : ℕ → List Cell → List Cell
cut_row n xs = if is_rest (get_or xs n (blank 0)) then emptied_cells n (emptied_cells (n - 1) xs)
    else xs

-- with a character of one column at a column
abbrev pub cells_with : ℕ → ℕ → ℕ → List Cell → List Cell
cells_with n l c xs = set (cut_row (n + 1) (cut_row n xs)) n (drawn_cell l c)

-- with characters of one column each, one after another
abbrev pub put_all : ℕ → ℕ → List ℕ → List Cell → List Cell
put_all n l [] xs = xs
put_all n l (c ∷ cs) xs = put_all (n + 1) l cs (cells_with n l c xs)

-- none of the first so many cells, nor the next one, is the second half of a wide one
abbrev pub is_free : ℕ → List Cell → Bool
is_free n [] = true
is_free zero (x ∷ xs) = if is_rest x then false else true
is_free (suc n) (x ∷ xs) = if is_rest x then false else is_free n xs

-- with one of two columns
abbrev pub put_wide : ℕ → ℕ → ℕ → List Cell → List Cell
put_wide n l c xs = set (set (cut_row (n + 2) (cut_row n xs)) n (cell (content.Wide c no_marks) l))
    (n + 1) (cell content.Rest l)

-- the column of the character of which a column is part
abbrev pub start_of : ℕ → List Cell → ℕ
start_of n xs = if is_rest (get_or xs n (blank 0)) then n - 1 else n

-- with a mark on the cell at a column
abbrev pub mark_at : ℕ → ℕ → List Cell → List Cell
mark_at n c xs = set xs n (marked_cell c (get_or xs n (blank 0)))

-- with a mark on the character of which a column is part
abbrev pub marked_cells : ℕ → ℕ → List Cell → List Cell
marked_cells n c xs = mark_at (start_of n xs) c xs

-- the content of a column
abbrev pub content_at : ℕ → List Cell → Content
content_at n xs = (get_or xs (start_of n xs) (blank 0)).content

-- with blank cells from one column to before another
abbrev pub erased_cells : ℕ → ℕ → ℕ → List Cell → List Cell
erased_cells l m n xs = in_part m n (cleared_cells l) (cut_row n (cut_row m xs))

-- with this cell from one column to before another
abbrev pub filled_part : Cell → ℕ → ℕ → List Cell → List Cell
filled_part x m n xs = in_part m n (filled_cells x) (cut_row n (cut_row m xs))

-- so many cells from one column on, and before another, are gone, and blank ones come at the end
abbrev pub deleted_cells : ℕ → ℕ → ℕ → ℕ → List Cell → List Cell
deleted_cells l k m n xs = in_part m n (moved_up k (cleared_cells l))
    (cut_row (m + k) (cut_row m xs))

-- so many blank cells come in at one column, and those that would be past another are gone
abbrev pub inserted_cells : ℕ → ℕ → ℕ → ℕ → List Cell → List Cell
inserted_cells l k m n xs = in_part m n (moved_down k (cleared_cells l))
    (cut_row (max m (n - k)) (cut_row m xs))

-- with so many cells more from one column on, and before another, or fewer
abbrev pub shifted_cells : Bool → ℕ → ℕ → ℕ → ℕ → List Cell → List Cell
shifted_cells more l k m n xs = if more then inserted_cells l k m n xs else deleted_cells l k m n xs
