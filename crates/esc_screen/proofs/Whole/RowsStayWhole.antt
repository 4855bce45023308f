-- No half of a wide character stands alone: rows.
use Rattle.std.proofs.Common.{ℕ, suc, zero, ◌≡◌, ◌+◌, ◌-◌, ◌<◌, ◌≤◌, max, nat_lt, Bool, true, false, inl, inr, List, [], ◌∷◌, ◌++◌, length, set, take, drop, replicate, get_or, if◌then◌else◌, refl, ap, sym, subst, ◌∙◌, append-nil, arith}
use Rattle.std.proofs.lemmas.Bool.{cases_Bool, true≢false}
use Rattle.std.proofs.lemmas.Bool.Decides.{nat_tests}
use Rattle.std.proofs.lemmas.List.{get_or-drop, length-drop, take_all}
use Rattle.esc_screen.specs.Lists.{in_part, moved_down, moved_up}
use Rattle.esc_screen.specs.Cells.{blank, blank_row, cell, cleared_cells, cut_row, deleted_cells, drawn_cell, emptied_cells, erased_cells, filled_cells, filled_part, inserted_cells, is_rest, is_rest_content, joined_at, joined_cell, marked_cells, marked_cell, marked_content, no_marks, cells_with, put_wide, shifted_cells, start_of}
use Rattle.esc_screen.specs.Halves.{GoOn, IsWhole, is_wide, is_wide_content}
use Rattle.esc_screen.specs.Resized.{resized_row}
use Rattle.esc_screen.specs.declared.cell.Cell.{Cell}
use Rattle.esc_screen.specs.declared.content.Content.{Content}
use Rattle.esc_screen.specs.declared.content.Content.TheVariants as content
use Rattle.esc_screen.proofs.Sound.CursorStaysInside.{length_cut}

-- ---- cells

rest_not_wide : (c : Content) → is_rest_content c ≡ true → is_wide_content c ≡ false
rest_not_wide content.Blank h = refl
rest_not_wide (content.Narrow c m) h = refl
rest_not_wide (content.Wide c m) h = absurd (true≢false (sym h))
rest_not_wide content.Rest h = refl

wide_not_rest : (c : Content) → is_wide_content c ≡ true → is_rest_content c ≡ false
wide_not_rest content.Blank h = refl
wide_not_rest (content.Narrow c m) h = refl
wide_not_rest (content.Wide c m) h = refl
wide_not_rest content.Rest h = absurd (true≢false (sym h))

-- ---- rows in two chunks

-- no character stands on both sides of the left edge of a column
abbrev HasEdge : ℕ → List Cell → Type 0
HasEdge n xs = is_rest (get_or xs n (blank 0)) ≡ false

go_append : (w : Bool) (xs ys : List Cell) → GoOn w xs → GoOn false ys → GoOn w (xs ++ ys)
go_append w [] ys h k = subst (λ b. GoOn b ys) (sym h) k
go_append w (x ∷ xs) ys h k = (h.0, go_append (is_wide x) xs ys h.1 k)

-- before an edge no second column is due
go_edge : (w : Bool) (xs : List Cell) → GoOn w xs → HasEdge 0 xs → w ≡ false
go_edge w [] h e = h
go_edge w (x ∷ xs) h e = sym h.0 ∙ e

go_take : (w : Bool) (n : ℕ) (xs : List Cell) → GoOn w xs → HasEdge n xs → GoOn w (take n xs)
go_take w zero xs h e = go_edge w xs h e
go_take w (suc n) [] h e = h
go_take w (suc n) (x ∷ xs) h e = (h.0, go_take (is_wide x) n xs h.1 e)

go_drop : (w : Bool) (n : ℕ) (xs : List Cell) → GoOn w xs → HasEdge n xs
    → GoOn false (drop n xs)
go_drop w zero xs h e = subst (λ b. GoOn b xs) (go_edge w xs h e) h
go_drop w (suc n) [] h e = refl
go_drop w (suc n) (x ∷ xs) h e = go_drop (is_wide x) n xs h.1 e

edge_past : (n : ℕ) (xs : List Cell) → length xs ≤ n → HasEdge n xs
edge_past n [] h = refl
edge_past zero (x ∷ xs) h = absurd (omega (arith, h))
edge_past (suc n) (x ∷ xs) h = edge_past n xs (omega (arith, h))

-- ---- cuts

edge_emptied : (n : ℕ) (xs : List Cell) → HasEdge n (emptied_cells n xs)
edge_emptied n [] = refl
edge_emptied zero (x ∷ xs) = refl
edge_emptied (suc n) (x ∷ xs) = edge_emptied n xs

edge_kept : (m n : ℕ) (xs : List Cell) → HasEdge m xs → HasEdge m (emptied_cells n xs)
edge_kept m n [] e = e
edge_kept zero zero (x ∷ xs) e = refl
edge_kept zero (suc n) (x ∷ xs) e = e
edge_kept (suc m) zero (x ∷ xs) e = e
edge_kept (suc m) (suc n) (x ∷ xs) e = edge_kept m n xs e

edge_cut : (n : ℕ) (xs : List Cell) → HasEdge n (cut_row n xs)
edge_cut n xs = by_test (is_rest (get_or xs n (blank 0))) refl
  where
    by_test : (b : Bool) → is_rest (get_or xs n (blank 0)) ≡ b
        → HasEdge n (if b then emptied_cells n (emptied_cells (n - 1) xs) else xs)
    by_test true e = edge_emptied n (emptied_cells (n - 1) xs)
    by_test false e = e

edge_kept_cut : (m n : ℕ) (xs : List Cell) → HasEdge m xs → HasEdge m (cut_row n xs)
edge_kept_cut m n xs e = by_test (is_rest (get_or xs n (blank 0)))
  where
    by_test : (b : Bool) → HasEdge m (if b then emptied_cells n (emptied_cells (n - 1) xs) else xs)
    by_test true = edge_kept m n (emptied_cells (n - 1) xs) (edge_kept m (n - 1) xs e)
    by_test false = e

-- both halves of a character are gone
go_pair : (w : Bool) (k : ℕ) (xs : List Cell) → GoOn w xs
    → is_rest (get_or xs (suc k) (blank 0)) ≡ true
    → GoOn w (emptied_cells (suc k) (emptied_cells k xs))
go_pair w k [] h e = absurd (true≢false (sym e))
go_pair w zero (x ∷ []) h e = absurd (true≢false (sym e))
go_pair w zero (x ∷ y ∷ ys) h e = (
  sym (wide_not_rest x.content (sym h.1.0 ∙ e)) ∙ h.0,
  (refl, subst (λ b. GoOn b ys) (rest_not_wide y.content e) h.1.1),
)
go_pair w (suc k) (x ∷ xs) h e = (h.0, go_pair (is_wide x) k xs h.1 e)

whole_emptied : (n : ℕ) (xs : List Cell) → IsWhole xs → is_rest (get_or xs n (blank 0)) ≡ true
    → IsWhole (emptied_cells n (emptied_cells (n - 1) xs))
whole_emptied n [] h e = absurd (true≢false (sym e))
whole_emptied zero (x ∷ xs) h e = absurd (true≢false (sym e ∙ h.0))
whole_emptied (suc k) (x ∷ xs) h e =
    let one : k ≡ suc k - 1 = omega arith in
    subst (λ j. IsWhole (emptied_cells (suc k) (emptied_cells j (x ∷ xs)))) one
    (go_pair false k (x ∷ xs) h e)

whole_cut : (n : ℕ) (xs : List Cell) → IsWhole xs → IsWhole (cut_row n xs)
whole_cut n xs h = by_test (is_rest (get_or xs n (blank 0))) refl
  where
    by_test : (b : Bool) → is_rest (get_or xs n (blank 0)) ≡ b
        → IsWhole (if b then emptied_cells n (emptied_cells (n - 1) xs) else xs)
    by_test true e = whole_emptied n xs h e
    by_test false e = h

-- ---- cells in place of others

-- one of no wide character
go_set : (w : Bool) (n : ℕ) (xs : List Cell) (y : Cell) → is_rest y ≡ false
    → is_wide y ≡ false → GoOn w xs → HasEdge n xs → HasEdge (suc n) xs → GoOn w (set xs n y)
go_set w n [] y r v h e f = h
go_set w zero (x ∷ xs) y r v h e f = (
  r ∙ sym (sym h.0 ∙ e),
  subst (λ b. GoOn b xs) (go_edge (is_wide x) xs h.1 f ∙ sym v) h.1,
)
go_set w (suc n) (x ∷ xs) y r v h e f = (h.0, go_set (is_wide x) n xs y r v h.1 e f)

-- both of one
go_set_both : (w : Bool) (n : ℕ) (xs : List Cell) (y z : Cell) → is_rest y ≡ false
    → is_rest z ≡ is_wide y → is_wide z ≡ false → GoOn w xs → HasEdge n xs
    → HasEdge (suc (suc n)) xs → suc n < length xs → GoOn w (set (set xs n y) (suc n) z)
go_set_both w n [] y z r s v h e f less = absurd (omega (arith, less))
go_set_both w zero (x ∷ []) y z r s v h e f less = absurd (omega (arith, less))
go_set_both w zero (x ∷ x2 ∷ xs) y z r s v h e f less = (
  r ∙ sym (sym h.0 ∙ e),
  (s, subst (λ b. GoOn b xs) (go_edge (is_wide x2) xs h.1.1 f ∙ sym v) h.1.1),
)
go_set_both w (suc n) (x ∷ xs) y z r s v h e f less =
    (h.0, go_set_both (is_wide x) n xs y z r s v h.1 e f (omega (arith, less)))

-- the same character
go_same : (w : Bool) (n : ℕ) (xs : List Cell) (f : Cell → Cell)
    → ((x : Cell) → (is_rest (f x) ≡ is_rest x) × (is_wide (f x) ≡ is_wide x)) → GoOn w xs
    → GoOn w (set xs n (f (get_or xs n (blank 0))))
go_same w n [] f k h = h
go_same w zero (x ∷ xs) f k h =
    ((k x).0 ∙ h.0, subst (λ b. GoOn b xs) (sym (k x).1) h.1)
go_same w (suc n) (x ∷ xs) f k h = (h.0, go_same (is_wide x) n xs f k h.1)

pub whole_filled : (x : Cell) (n : ℕ) → is_rest x ≡ false → is_wide x ≡ false
    → IsWhole (replicate n x)
whole_filled x zero r v = refl
whole_filled x (suc n) r v =
    (r, subst (λ b. GoOn b (replicate n x)) (sym v) (whole_filled x n r v))

-- ---- changes of cells

pub whole_put : (n l c : ℕ) (xs : List Cell) → IsWhole xs → IsWhole (cells_with n l c xs)
whole_put n l c xs h =
    let ys = cut_row (n + 1) (cut_row n xs) in
    let one : n + 1 ≡ suc n = omega arith in
    go_set false n ys (drawn_cell l c) refl refl (whole_cut (n + 1) _ (whole_cut n xs h))
    (edge_kept_cut n (n + 1) _ (edge_cut n xs))
    (subst (λ k. HasEdge k ys) one (edge_cut (n + 1) (cut_row n xs)))

pub whole_put_wide : (n l c : ℕ) (xs : List Cell) → n + 1 < length xs → IsWhole xs
    → IsWhole (put_wide n l c xs)
whole_put_wide n l c xs less h =
    let ys = cut_row (n + 2) (cut_row n xs) in
    let y = cell (content.Wide c no_marks) l in
    let z = cell content.Rest l in
    let one : suc n ≡ n + 1 = omega arith in
    let two : n + 2 ≡ suc (suc n) = omega arith in
    let len : length ys ≡ length xs = length_cut (n + 2) (cut_row n xs) ∙ length_cut n xs in
    subst (λ k. IsWhole (set (set ys n y) k z)) one
    (go_set_both false n ys y z refl refl refl (whole_cut (n + 2) _ (whole_cut n xs h))
    (edge_kept_cut n (n + 2) _ (edge_cut n xs))
    (subst (λ k. HasEdge k ys) two (edge_cut (n + 2) (cut_row n xs)))
    (omega (arith, less, len)))

marked_same : (m : ℕ) (c : Content) → (is_rest_content (marked_content m c) ≡ is_rest_content c)
    × (is_wide_content (marked_content m c) ≡ is_wide_content c)
marked_same m content.Blank = (refl, refl)
marked_same m (content.Narrow c x) = (refl, refl)
marked_same m (content.Wide c x) = (refl, refl)
marked_same m content.Rest = (refl, refl)

pub whole_marked : (n c : ℕ) (xs : List Cell) → IsWhole xs → IsWhole (marked_cells n c xs)
whole_marked n c xs h =
    go_same false (start_of n xs) xs (marked_cell c) (λ x. marked_same c x.content) h

pub whole_joined : (n : ℕ) (xs : List Cell) → IsWhole xs → IsWhole (joined_at n xs)
whole_joined n xs h = go_same false n xs joined_cell (λ x. (refl, refl)) h

whole_cleared : (l : ℕ) (xs : List Cell) → IsWhole (cleared_cells l xs)
whole_cleared l xs = whole_filled (blank l) (length xs) refl refl

-- ---- parts of rows

edge_later : (m n : ℕ) (xs : List Cell) → HasEdge m xs → HasEdge n xs
    → HasEdge (m + (n - m)) xs
edge_later m n xs e f =
    elim (cases_Bool (nat_lt m n)) [
      | inl held ↦
          let less : m < n = grind (arith, nat_tests) in
          let is : m + (n - m) ≡ n = omega (arith, less) in
          ap (λ k. is_rest (get_or xs k (blank 0))) is ∙ f
      | inr failed ↦
          let more : n ≤ m = grind (arith, nat_tests) in
          let is : m + (n - m) ≡ m = omega (arith, more) in
          ap (λ k. is_rest (get_or xs k (blank 0))) is ∙ e
    ]

edge_part : (m n : ℕ) (xs : List Cell) → HasEdge m xs → HasEdge n xs
    → HasEdge (n - m) (drop m xs)
edge_part m n xs e f =
    ap is_rest (get_or-drop m xs (n - m) (blank 0)) ∙ edge_later m n xs e f

whole_part : (m n : ℕ) (f : List Cell → List Cell) (xs : List Cell) → IsWhole xs
    → HasEdge m xs → HasEdge n xs → IsWhole (f (take (n - m) (drop m xs)))
    → IsWhole (in_part m n f xs)
whole_part m n f xs h e k part =
    let ys = drop m xs in
    go_append false (take m xs) _ (go_take false m xs h e)
    (go_append false (f (take (n - m) ys)) (drop (n - m) ys) part
    (go_drop false (n - m) ys (go_drop false m xs h e) (edge_part m n xs e k)))

pub whole_erased : (l m n : ℕ) (xs : List Cell) → IsWhole xs → IsWhole (erased_cells l m n xs)
whole_erased l m n xs h =
    whole_part m n (cleared_cells l) (cut_row n (cut_row m xs)) (whole_cut n _ (whole_cut m xs h))
    (edge_kept_cut m n _ (edge_cut m xs)) (edge_cut n (cut_row m xs)) (whole_cleared l _)

pub whole_filled_part : (x : Cell) (m n : ℕ) (xs : List Cell) → is_rest x ≡ false
    → is_wide x ≡ false → IsWhole xs → IsWhole (filled_part x m n xs)
whole_filled_part x m n xs r v h =
    whole_part m n (filled_cells x) (cut_row n (cut_row m xs)) (whole_cut n _ (whole_cut m xs h))
    (edge_kept_cut m n _ (edge_cut m xs)) (edge_cut n (cut_row m xs)) (whole_filled x _ r v)

-- the part up to the end
to_end : (m n : ℕ) (xs : List Cell) → length xs ≤ n → take (n - m) (drop m xs) ≡ drop m xs
to_end m n xs h = take_all (n - m) (drop m xs) (omega (arith, h, length-drop m xs))

pub whole_deleted : (l k m n : ℕ) (xs : List Cell) → length xs ≡ n → IsWhole xs
    → IsWhole (deleted_cells l k m n xs)
whole_deleted l k m n xs len h =
    let ys = cut_row (m + k) (cut_row m xs) in
    let f = moved_up k (cleared_cells l) in
    let same : length ys ≡ n = length_cut (m + k) (cut_row m xs) ∙ length_cut m xs ∙ len in
    let all : length ys ≤ n = omega (arith, same) in
    let whole = whole_cut (m + k) _ (whole_cut m xs h) in
    let first = edge_kept_cut m (m + k) _ (edge_cut m xs) in
    let later : HasEdge k (drop m ys) =
    ap is_rest (get_or-drop m ys k (blank 0)) ∙ edge_cut (m + k) (cut_row m xs) in
    whole_part m n f ys whole first (edge_past n ys all)
    (subst (λ z. IsWhole (f z)) (sym (to_end m n ys all))
    (go_append false (drop k (drop m ys)) _
    (go_drop false k (drop m ys) (go_drop false m ys whole first) later) (whole_cleared l _)))

pub whole_inserted : (l k m n : ℕ) (xs : List Cell) → length xs ≡ n → m ≤ n → IsWhole xs
    → IsWhole (inserted_cells l k m n xs)
whole_inserted l k m n xs len within h =
    let at = max m (n - k) in
    let ys = cut_row at (cut_row m xs) in
    let zs = drop m ys in
    let j = length zs - k in
    let f = moved_down k (cleared_cells l) in
    let same : length ys ≡ n = length_cut at (cut_row m xs) ∙ length_cut m xs ∙ len in
    let all : length ys ≤ n = omega (arith, same) in
    let whole = whole_cut at _ (whole_cut m xs h) in
    let first = edge_kept_cut m at _ (edge_cut m xs) in
    let place : m + j ≡ at = omega (arith, length-drop m ys, same, within) in
    let later : HasEdge j zs =
    ap is_rest (get_or-drop m ys j (blank 0) ∙ ap (λ i. get_or ys i (blank 0)) place)
    ∙ edge_cut at (cut_row m xs) in
    whole_part m n f ys whole first (edge_past n ys all)
    (subst (λ z. IsWhole (f z)) (sym (to_end m n ys all))
    (go_append false (cleared_cells l (drop j zs)) (take j zs) (whole_cleared l _)
    (go_take false j zs (go_drop false m ys whole first) later)))

pub whole_shifted : (more : Bool) (l k m n : ℕ) (xs : List Cell) → length xs ≡ n → m ≤ n
    → IsWhole xs → IsWhole (shifted_cells more l k m n xs)
whole_shifted true l k m n xs len within h = whole_inserted l k m n xs len within h
whole_shifted false l k m n xs len within h = whole_deleted l k m n xs len h

-- ---- another number of columns

pub whole_resized : (n : ℕ) (xs : List Cell) → IsWhole xs → IsWhole (resized_row n xs)
whole_resized n xs h =
    go_append false (take n (cut_row n xs)) _
    (go_take false n (cut_row n xs) (whole_cut n xs h) (edge_cut n xs))
    (whole_filled (blank 0) (n - length xs) refl refl)

-- a row that has as many is the same
pub same_resized : (n : ℕ) (xs : List Cell) → length xs ≡ n → resized_row n xs ≡ xs
same_resized n xs e =
    let all : length xs ≤ n = omega (arith, e) in
    let none : n - length xs ≡ 0 = omega (arith, e) in
    ap (λ b. take n (if b then emptied_cells n (emptied_cells (n - 1) xs) else xs)
    ++ blank_row 0 (n - length xs)) (edge_past n xs all)
    ∙ ap (λ k. take n xs ++ blank_row 0 k) none
    ∙ append-nil (take n xs) ∙ take_all n xs all
