-- Bytes that are the same in two lists, and where a line ends.
use Rattle.std.proofs.Common.{ℕ, zero, suc, ◌≡◌, ◌+◌, ◌-◌, ◌<◌, Bool, true, List, [], ◌∷◌, ◌++◌, length, take, drop, get_or, Result, Ok, Err, OnOk, refl, sym, ap, ◌∙◌, subst, arith}
use Rattle.esc_filter.specs.Lines.{is_line_feed, ends_line}

take_none : (n : ℕ) → take {A = ℕ} n [] ≡ []
take_none zero = refl
take_none (suc n) = refl

plus_suc : (i n : ℕ) → suc i + n ≡ suc (i + n)
plus_suc i n = omega arith

pub take_plus : (i n : ℕ) (x : List ℕ) → take (i + n) x ≡ take i x ++ take n (drop i x)
take_plus zero n x = ap (λ k. take k x) (none n)
  where
    none : (n : ℕ) → 0 + n ≡ n
    none n = omega arith
take_plus (suc i) n [] = take_none (suc i + n) ∙ sym (take_none n)
take_plus (suc i) n (b ∷ x) =
    ap (λ k. take k (b ∷ x)) (plus_suc i n) ∙ ap (λ y. b ∷ y) (take_plus i n x)

-- a block more that is the same in both
pub block_more : (i n : ℕ) (x y : List ℕ) → take i x ≡ take i y
    → take (i + n - i) (drop i x) ≡ take (i + n - i) (drop i y) → take (i + n) x ≡ take (i + n) y
block_more i n x y e f =
    let g : take n (drop i x) ≡ take n (drop i y) =
    subst (λ k. take k (drop i x) ≡ take k (drop i y)) (back i n) f in
    take_plus i n x ∙ ap (λ z. z ++ take n (drop i x)) e ∙ ap (λ z. take i y ++ z) g
    ∙ sym (take_plus i n y)
  where
    back : (i n : ℕ) → i + n - i ≡ n
    back i n = omega arith

-- a line feed comes last
pub ends_there : (t : Bool) (x : List ℕ) (m i : ℕ) → i < length (take m x)
    → is_line_feed (get_or (take m x) i 0) ≡ true → ends_line t (take (i + 1) x) ≡ true
ends_there t [] zero i l e = absurd (omega (arith, l))
ends_there t [] (suc m) i l e = absurd (omega (arith, l))
ends_there t (b ∷ x) zero i l e = absurd (omega (arith, l))
ends_there t (b ∷ x) (suc m) zero l e = e
ends_there t (b ∷ x) (suc m) (suc i) l e =
    ap (λ k. ends_line t (take k (b ∷ x))) (plus_suc i 1)
    ∙ ends_there (is_line_feed b) x m i (omega (arith, l)) e

-- a fact about a result under a condition
pub ok_given : {T E : Type 0} (P Q : Type 0) (r : Result T E) → (P → OnOk r Q) → OnOk r (P → Q)
ok_given P Q (Ok x) f = f
ok_given P Q (Err e) f = tt
