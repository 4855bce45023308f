-- Which cells of a row are as at first.
use Rattle.std.proofs.Common.{ℕ, suc, zero, ◌≡◌, ◌+◌, ◌-◌, ◌<◌, ◌≤◌, min, false, inl, inr, List, [], ◌∷◌, ◌++◌, length, set, take, drop, replicate, get_or, if◌then◌else◌, refl, ap, sym, subst, ◌∙◌, append-nil, arith}
use Rattle.std.proofs.lemmas.Bool.{cases_Bool, cases_lt}
use Rattle.std.proofs.Math.Seq.{take-append_seam}
use Rattle.std.proofs.lemmas.List.{drop_all, get_or-drop, get_or-set_other, get_or_past, set-get_or, take_all}
use Rattle.esc_screen.specs.Lists.{in_part}
use Rattle.esc_screen.specs.Cells.{blank, cleared_cells, cut_row, drawn_cell, emptied_cells, erased_cells, is_rest, marked_cell, marked_cells, cells_with, put_all, put_wide, start_of}
use Rattle.esc_screen.specs.Used.{IsUnusedFrom}
use Rattle.esc_screen.specs.declared.cell.Cell.{Cell}
use Rattle.esc_screen.proofs.Whole.RunWithoutWide.{cut_same}

pub unused_more : (m n : ℕ) (xs : List Cell) → m ≤ n → IsUnusedFrom m xs → IsUnusedFrom n xs
unused_more m n xs less h i at = h i (omega (arith, less, at))

pub unused_past : (n : ℕ) (xs : List Cell) → length xs ≤ n → IsUnusedFrom n xs
unused_past n xs past i at = get_or_past xs i (blank 0) (omega (arith, past, at))

pub unused_blank : (n k : ℕ) → IsUnusedFrom n (replicate k (blank 0))
unused_blank n zero i at = refl
unused_blank n (suc k) zero at = refl
unused_blank n (suc k) (suc i) at = unused_blank zero k i (omega arith)

-- the row after a call on all of its cells
pub written_by : (f : List Cell → List Cell) (k : ℕ) (new old xs : List Cell) → length new ≡ k
    → new ≡ f old → old ≡ xs → take k (new ++ drop (length new) xs) ≡ f xs
written_by f k new old xs len is same =
    ap (λ j. take j (new ++ drop (length new) xs)) (sym len)
    ∙ take-append_seam new (drop (length new) xs) ∙ is ∙ ap f same

-- no second column of a character is there
not_rest : (m n : ℕ) (xs : List Cell) → n ≤ m → IsUnusedFrom n xs
    → is_rest (get_or xs m (blank 0)) ≡ false
not_rest m n xs more h = ap is_rest (h m more)

-- ---- one cell more

unused_set : (n m : ℕ) (y : Cell) (xs : List Cell) → m < n → IsUnusedFrom n xs
    → IsUnusedFrom n (set xs m y)
unused_set n m y xs less h i at =
    get_or-set_other xs m i y (blank 0) (λ e. omega (arith, less, at, e)) ∙ h i at

unused_cut : (n m : ℕ) (xs : List Cell) → IsUnusedFrom n xs → IsUnusedFrom n (cut_row m xs)
unused_cut n m xs h =
    elim (cases_lt m n) [
      | inl less ↦ elim (cases_Bool (is_rest (get_or xs m (blank 0)))) [
        | inl rest ↦
            let before : m - 1 < n = omega (arith, less) in
            subst (IsUnusedFrom n)
            (sym (ap (λ b. if b then emptied_cells m (emptied_cells (m - 1) xs) else xs)
            rest))
            (unused_set n m _ (emptied_cells (m - 1) xs) less
            (unused_set n (m - 1) _ xs before h))
        | inr none ↦ subst (IsUnusedFrom n) (sym (cut_same m xs none)) h
      ]
      | inr more ↦
          subst (IsUnusedFrom n) (sym (cut_same m xs (not_rest m n xs more h))) h
    ]

pub unused_put : (n m l c : ℕ) (xs : List Cell) → m < n → IsUnusedFrom n xs
    → IsUnusedFrom n (cells_with m l c xs)
unused_put n m l c xs less h =
    unused_set n m (drawn_cell l c) _ less
    (unused_cut n (m + 1) (cut_row m xs) (unused_cut n m xs h))

pub unused_put_all : (n m l : ℕ) (cs : List ℕ) (xs : List Cell) → m + length cs ≤ n
    → IsUnusedFrom n xs → IsUnusedFrom n (put_all m l cs xs)
unused_put_all n m l [] xs few h = h
unused_put_all n m l (c ∷ cs) xs few h =
    let less : m < n = omega (arith, few) in
    let later : m + 1 + length cs ≤ n = omega (arith, few) in
    unused_put_all n (m + 1) l cs (cells_with m l c xs) later (unused_put n m l c xs less h)

pub unused_put_wide : (n m l c : ℕ) (xs : List Cell) → m + 2 ≤ n → IsUnusedFrom n xs
    → IsUnusedFrom n (put_wide m l c xs)
unused_put_wide n m l c xs few h =
    let less : m < n = omega (arith, few) in
    let next : m + 1 < n = omega (arith, few) in
    unused_set n (m + 1) _ _ next
    (unused_set n m _ _ less (unused_cut n (m + 2) (cut_row m xs) (unused_cut n m xs h)))

-- a blank cell takes no mark
pub unused_marked : (n m c : ℕ) (xs : List Cell) → IsUnusedFrom n xs
    → IsUnusedFrom n (marked_cells m c xs)
unused_marked n m c xs h =
    let k = start_of m xs in
    elim (cases_lt k n) [
      | inl less ↦ unused_set n k _ xs less h
      | inr more ↦
          let is : marked_cell c (get_or xs k (blank 0)) ≡ get_or xs k (blank 0) =
          ap (marked_cell c) (h k more) ∙ sym (h k more) in
          subst (IsUnusedFrom n) (sym (ap (set xs k) is ∙ set-get_or xs k (blank 0))) h
    ]

-- ---- cells that are erased

-- the first so many are blank
abbrev erased_first : ℕ → List Cell → List Cell
erased_first k xs = cleared_cells 0 (take k xs) ++ drop k xs

unused_erased_first : (n k : ℕ) (xs : List Cell) → IsUnusedFrom n xs
    → IsUnusedFrom n (erased_first k xs)
unused_erased_first n zero xs h i at = h i at
unused_erased_first n (suc k) [] h i at = h i at
unused_erased_first n (suc k) (x ∷ xs) h zero at = refl
unused_erased_first n (suc k) (x ∷ xs) h (suc i) at =
    unused_erased_first (n - 1) k xs (λ j less. h (suc j) (omega (arith, less))) i
    (omega (arith, at))

-- cells that are as at first are erased cells
all_blank : (k : ℕ) (xs : List Cell) → IsUnusedFrom 0 xs → xs ≡ erased_first k xs
all_blank zero xs h = refl
all_blank (suc k) [] h = refl
all_blank (suc k) (x ∷ xs) h =
    ap (λ y. y ∷ xs) (h 0 (omega arith))
    ∙ ap (λ ys. blank 0 ∷ ys) (all_blank k xs (λ i less. h (suc i) (omega arith)))

more_blank : (k j : ℕ) (xs : List Cell) → k ≤ j → IsUnusedFrom k xs
    → erased_first k xs ≡ erased_first j xs
more_blank zero j xs less h = all_blank j xs h
more_blank (suc k) zero xs less h = absurd (omega (arith, less))
more_blank (suc k) (suc j) [] less h = refl
more_blank (suc k) (suc j) (x ∷ xs) less h =
    ap (λ ys. blank 0 ∷ ys)
    (more_blank k j xs (omega (arith, less)) (λ i at. h (suc i) (omega (arith, at))))

-- a row of which the used cells are erased is blank
pub reset_is : (n : ℕ) (xs : List Cell) → IsUnusedFrom n xs
    → in_part 0 n (cleared_cells 0) xs ≡ cleared_cells 0 xs
reset_is n xs h =
    let k = n + length xs in
    let is : n - 0 ≡ n = omega arith in
    let more : n ≤ k = omega arith in
    let all : length xs ≤ k = omega arith in
    ap (λ j. erased_first j xs) is ∙ more_blank n k xs more h
    ∙ ap (λ ys. cleared_cells 0 ys ++ drop k xs) (take_all k xs all)
    ∙ ap (λ ys. cleared_cells 0 xs ++ ys) (drop_all k xs all)
    ∙ append-nil (cleared_cells 0 xs)

unused_drop : (n m : ℕ) (xs : List Cell) → IsUnusedFrom n xs → IsUnusedFrom (n - m) (drop m xs)
unused_drop n m xs h i at = get_or-drop m xs i (blank 0) ∙ h (m + i) (omega (arith, at))

unused_append : (n m : ℕ) (xs ys : List Cell) → IsUnusedFrom n xs → IsUnusedFrom (n - m) ys
    → IsUnusedFrom n (take m xs ++ ys)
unused_append n zero xs ys h k i at = k i (omega (arith, at))
unused_append n (suc m) [] ys h k i at = k i (omega (arith, at))
unused_append n (suc m) (x ∷ xs) ys h k zero at = h 0 at
unused_append n (suc m) (x ∷ xs) ys h k (suc i) at =
    let one : n - suc m ≡ n - 1 - m = omega arith in
    unused_append (n - 1) m xs ys (λ j less. h (suc j) (omega (arith, less)))
    (subst (λ z. IsUnusedFrom z ys) one k) i (omega (arith, at))

pub unused_erased : (n m k : ℕ) (xs : List Cell) → IsUnusedFrom n xs
    → IsUnusedFrom n (erased_cells 0 m k xs)
unused_erased n m k xs h =
    let ys = cut_row k (cut_row m xs) in
    let h = unused_cut n k (cut_row m xs) (unused_cut n m xs h) in
    unused_append n m ys _ h
    (unused_erased_first (n - m) (k - m) (drop m ys) (unused_drop n m ys h))

-- an erasure leaves cells that are as at first as they are
pub erased_is : (n m k : ℕ) (xs : List Cell) → IsUnusedFrom n xs
    → erased_cells 0 m (min k n) xs ≡ erased_cells 0 m k xs
erased_is n m k xs h =
    elim (cases_lt n k) [
      | inl less ↦
          let ys = cut_row m xs in
          let here = unused_cut n m xs h in
          let is : min k n ≡ n = omega (arith, less) in
          let more : n ≤ k = omega (arith, less) in
          let fewer : n - m ≤ k - m = omega (arith, less) in
          ap (λ z. erased_cells 0 m z xs) is
          ∙ ap (in_part m n (cleared_cells 0)) (cut_same n ys (not_rest n n ys (omega arith) here))
          ∙ ap (λ zs. take m ys ++ zs)
          (more_blank (n - m) (k - m) (drop m ys) fewer (unused_drop n m ys here))
          ∙ sym (ap (in_part m k (cleared_cells 0)) (cut_same k ys (not_rest k n ys more here)))
      | inr more ↦
          let is : min k n ≡ k = omega (arith, more) in ap (λ z. erased_cells 0 m z xs) is
    ]
