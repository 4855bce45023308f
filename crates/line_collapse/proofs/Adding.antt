-- Text more is counted.
use Rattle.std.proofs.Common.{ℕ, ◌≡◌, ◌+◌, ◌<◌, ◌^◌, ◌-◌, min, List, [], ◌∷◌, ◌++◌, length, get_or, take, refl, sym, ap, subst, ◌∙◌, arith}
use Rattle.std.specs.List.{sum_by}
use Rattle.std.proofs.lemmas.List.{take_more}
use Rattle.std.proofs.lemmas.List.Sums.{sum_by-append}
use Rattle.line_collapse.specs.Amounts.{Adds, amount_with, amount, up_to_most}
use Rattle.line_collapse.specs.declared.amount.Amount.{Amount}

pub same_amount : (i j n m : ℕ) → i ≡ n → j ≡ m → amount i j ≡ amount n m
same_amount i j n m e f = ap (λ k. amount k j) e ∙ ap (amount n) f

most_twice : (i n : ℕ) → up_to_most (up_to_most i + n) ≡ up_to_most (i + n)
most_twice i n = omega arith

abbrev sized : ℕ → ℕ → Amount
sized n m = record { chars = n; bytes = m }

same_sized : (i j n m : ℕ) → i ≡ n → j ≡ m → sized i j ≡ sized n m
same_sized i j n m e f = ap (λ k. sized k j) e ∙ ap (sized n) f

-- an amount, with more of it
pub amount_added : (i j n m : ℕ) → amount_with n m (amount i j) ≡ amount (i + n) (j + m)
amount_added i j n m =
    same_sized (up_to_most (up_to_most i + n)) (up_to_most (up_to_most j + m)) (up_to_most (i + n))
    (up_to_most (j + m)) (most_twice i n) (most_twice j m)

pub one_added : (n m : ℕ) (x y : Amount) → y ≡ amount_with n m x → Adds n m x y
one_added n m x y e = λ i j h. e ∙ ap (amount_with n m) h ∙ amount_added i j n m

-- nothing more, and more after more
pub none_added : (x : Amount) → Adds 0 0 x x
none_added x = λ i j h. h ∙ same_amount i j (i + 0) (j + 0) (omega arith) (omega arith)

pub both_added : (n m k l : ℕ) (x y z : Amount) → Adds n m x y → Adds k l y z
    → Adds (n + k) (m + l) x z
both_added n m k l x y z h g = λ i j e.
    g (i + n) (j + m) (h i j e)
    ∙ same_amount ((i + n) + k) ((j + m) + l) (i + (n + k)) (j + (m + l)) (omega arith)
    (omega arith)

-- so much more, as sums
pub sum_next : {X : Type 0} (f : X → ℕ) (xs : List X) (i : ℕ) (d : X) → i < length xs
    → sum_by f (take i xs) + f (get_or xs i d) ≡ sum_by f (take (i + 1) xs)
sum_next f xs i d less =
    let one : sum_by f (take i xs) + f (get_or xs i d)
    ≡ sum_by f (take i xs) + sum_by f (get_or xs i d ∷ []) = omega arith in
    one ∙ sym (sum_by-append f (take i xs) (get_or xs i d ∷ []))
    ∙ ap (sum_by f) (sym (take_more xs i d less))

-- an item more of a list
pub next_added : {X : Type 0} (f g : X → ℕ) (xs : List X) (i : ℕ) (d x : X) (p q r : Amount)
    → i < length xs → x ≡ get_or xs i d
    → Adds (sum_by f (take i xs)) (sum_by g (take i xs)) p q → Adds (f x) (g x) q r
    → Adds (sum_by f (take (i + 1) xs)) (sum_by g (take (i + 1) xs)) p r
next_added f g xs i d x p q r less is h k =
    subst (λ n. Adds n (sum_by g (take (i + 1) xs)) p r)
    (ap (λ y. sum_by f (take i xs) + f y) is ∙ sum_next f xs i d less)
    (subst (λ n. Adds (sum_by f (take i xs) + f x) n p r)
    (ap (λ y. sum_by g (take i xs) + g y) is ∙ sum_next g xs i d less)
    (both_added (sum_by f (take i xs)) (sum_by g (take i xs)) (f x) (g x) p q r h k))

-- all of one list, and then of another
pub sums_both : {X : Type 0} (f g : X → ℕ) (xs ys : List X)
    → amount (sum_by f xs + sum_by f ys) (sum_by g xs + sum_by g ys)
    ≡ amount (sum_by f (xs ++ ys)) (sum_by g (xs ++ ys))
sums_both f g xs ys =
    same_amount _ _ _ _ (sym (sum_by-append f xs ys)) (sym (sum_by-append g xs ys))

pub list_added : {X : Type 0} (f g : X → ℕ) (xs ys : List X) (x y : Amount)
    → x ≡ amount (sum_by f xs) (sum_by g xs) → Adds (sum_by f ys) (sum_by g ys) x y
    → y ≡ amount (sum_by f (xs ++ ys)) (sum_by g (xs ++ ys))
list_added f g xs ys x y e h = h (sum_by f xs) (sum_by g xs) e ∙ sums_both f g xs ys

-- and an item more
module _ {X : Type 0} (f g : X → ℕ) (xs : List X) (z : X) where
  one_more : (k : X → ℕ) → sum_by k xs + k z ≡ sum_by k xs + sum_by k (z ∷ [])
  one_more k = omega arith

  pub item_added : (x y : Amount) → x ≡ amount (sum_by f xs) (sum_by g xs) → Adds (f z) (g z) x y
      → y ≡ amount (sum_by f (xs ++ z ∷ [])) (sum_by g (xs ++ z ∷ []))
  item_added x y e h =
      h (sum_by f xs) (sum_by g xs) e
      ∙ same_amount _ _ _ _ (one_more f) (one_more g)
      ∙ sums_both f g xs (z ∷ [])

-- the first item of a list
pub sum_first : {X : Type 0} (f : X → ℕ) (x : X) (xs : List X)
    → f x + sum_by f xs ≡ sum_by f (x ∷ xs)
sum_first f x xs =
    let one : f x + sum_by f xs ≡ sum_by f (x ∷ []) + sum_by f xs = omega arith in
    one ∙ sym (sum_by-append f (x ∷ []) xs)
