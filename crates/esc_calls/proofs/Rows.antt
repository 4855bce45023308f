-- A row that is put after those before it.
use Rattle.std.proofs.Common.{ℕ, zero, suc, ◌≡◌, ◌+◌, ◌<◌, List, [], ◌∷◌, ◌++◌, arith, length, map, take, drop, slice_set, slice_index_or, refl, ap, ◌∙◌}

pub row_put : {X Y : Type 0} (f : X → Y) (xs : List X) (rs : List Y) (n : ℕ) (d : X)
    → n < length xs → n < length rs
    → slice_set (take n (map f xs) ++ drop n rs) n (f (slice_index_or xs n d))
    ≡ take (n + 1) (map f xs) ++ drop (n + 1) rs
row_put f [] rs n d h k = absurd (omega arith)
row_put f (x ∷ xs) [] n d h k = absurd (omega arith)
row_put f (x ∷ xs) (r ∷ rs) zero d h k = refl
row_put f (x ∷ xs) (r ∷ rs) (suc n) d h k =
    let first : n < length xs = omega arith in
    let second : n < length rs = omega arith in
    let one : n + 1 + 1 ≡ suc n + 1 = omega arith in
    let next : suc (n + 1) ≡ n + 1 + 1 = omega arith in
    ap (λ ys. f x ∷ ys) (row_put f xs rs n d first second)
    ∙ ap (λ m. take m (f x ∷ map f xs) ++ drop m (r ∷ rs)) (next ∙ one)
