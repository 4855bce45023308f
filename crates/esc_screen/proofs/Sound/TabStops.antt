-- Tab stops.
use Rattle.std.proofs.Common.{ℕ, zero, suc, ◌≡◌, ◌+◌, ◌-◌, ◌%◌, ◌==◌, ◌<◌, ◌≤◌, Bool, false, List, [], ◌∷◌, ◌++◌, length, replicate, set, take, drop, get_or, refl, ap, sym, ◌∙◌, append_assoc, append-nil, arith}
use Rattle.std.proofs.lemmas.List.{drop_all, drop_more, length-take-le, set_at, take_all, take_more}
use Rattle.esc_screen.specs.Cursors.{eighths}

-- one value more of another list
pub more_of : {X : Type 0} (i : ℕ) (d : X) (xs ys : List X) → i < length ys
    → length xs ≡ length ys
    → set (take i xs ++ drop i ys) i (get_or xs i d) ≡ take (i + 1) xs ++ drop (i + 1) ys
more_of i d xs ys less e =
    let p = take i xs in
    let x = get_or xs i d in
    let within : i < length xs = omega (arith, less, e) in
    let few : i ≤ length xs = omega (arith, within) in
    ap (λ z. set (p ++ z) i x) (drop_more ys i d less)
    ∙ set_at p (get_or ys i d) (drop (i + 1) ys) x i (length-take-le i xs few)
    ∙ sym (append_assoc p (x ∷ []) (drop (i + 1) ys))
    ∙ ap (λ z. z ++ drop (i + 1) ys) (sym (take_more xs i d within))

pub all_of_it : {X : Type 0} (n : ℕ) (xs ys : List X) → length xs ≤ n → length ys ≤ n
    → take n xs ++ drop n ys ≡ xs
all_of_it n xs ys h k = ap (λ z. take n xs ++ z) (drop_all n ys k) ∙ append-nil (take n xs)
    ∙ take_all n xs h

pub length_eighths : (k : ℕ) (t : List Bool) → length (eighths k t) ≡ length t
length_eighths k [] = refl
length_eighths k (b ∷ t) = ap (λ n. suc n) (length_eighths (k + 1) t)

pub eighth_at : (k i : ℕ) (t : List Bool) → i < length t
    → get_or (eighths k t) i false ≡ ((k + i) % 8 == 0)
eighth_at k i [] less = absurd (omega (arith, less))
eighth_at k zero (b ∷ t) less = ap (λ n. n % 8 == 0) (same k)
  where
    same : (k : ℕ) → k ≡ k + 0
    same k = omega arith
eighth_at k (suc i) (b ∷ t) less =
    let less' : i < length t = omega (arith, less) in
    eighth_at (k + 1) i t less' ∙ ap (λ n. n % 8 == 0) (same k i)
  where
    same : (k i : ℕ) → k + 1 + i ≡ k + suc i
    same k i = omega arith

pub eighth_more : (i : ℕ) (t : List Bool) → i < length t
    → set (take i (eighths 0 t) ++ drop i t) i (i % 8 == 0)
    ≡ take (i + 1) (eighths 0 t) ++ drop (i + 1) t
eighth_more i t less =
    ap (set (take i (eighths 0 t) ++ drop i t) i) (sym (eighth_at 0 i t less
    ∙ ap (λ n. n % 8 == 0) (same i)))
    ∙ more_of i false (eighths 0 t) t less (length_eighths 0 t)
  where
    same : (i : ℕ) → 0 + i ≡ i
    same i = omega arith

-- ---- columns that are new

eighths_more : (k n : ℕ) → eighths k (replicate n false) ++ ((k + n) % 8 == 0) ∷ []
    ≡ eighths k (replicate (suc n) false)
eighths_more k zero = ap (λ i. (i % 8 == 0) ∷ []) (none k)
  where
    none : (k : ℕ) → k + 0 ≡ k
    none k = omega arith
eighths_more k (suc n) = ap (λ z. (k % 8 == 0) ∷ z)
    (ap (λ i. eighths (k + 1) (replicate n false) ++ (i % 8 == 0) ∷ []) (one k n)
    ∙ eighths_more (k + 1) n)
  where
    one : (k n : ℕ) → k + suc n ≡ k + 1 + n
    one k n = omega arith

-- one column more
pub stop_more : (i m : ℕ) (bs : List Bool) → m ≤ i
    → (bs ++ eighths m (replicate (i - m) false)) ++ (i % 8 == 0) ∷ []
    ≡ bs ++ eighths m (replicate (i + 1 - m) false)
stop_more i m bs from =
    let there : i ≡ m + (i - m) = omega (arith, from) in
    let one : suc (i - m) ≡ i + 1 - m = omega (arith, from) in
    append_assoc bs (eighths m (replicate (i - m) false)) ((i % 8 == 0) ∷ [])
    ∙ ap (λ z. bs ++ z) (ap (λ n. eighths m (replicate (i - m) false) ++ (n % 8 == 0) ∷ []) there
    ∙ eighths_more m (i - m) ∙ ap (λ n. eighths m (replicate n false)) one)
