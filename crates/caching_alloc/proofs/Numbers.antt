-- The sizes of blocks, and of requests.
use Rattle.std.proofs.Common.{◌≡◌, ℕ, ◌%◌, ◌<◌, ◌≤◌, Bool, true, false, leb, if◌then◌else◌, refl, sym, ◌∙◌, arith, leb-true, leb-false, le-leb}
use mir.Syntax.{Ty}
use prog.Memory.{size, capped}
use prog.Capped.{capped_is, capped_small}
use Rattle.caching_alloc.specs.Sizes.{block_size}

by_test : (P : ℕ → Type 0) (t : Bool) (x y : ℕ) → (t ≡ true → P x) → (t ≡ false → P y)
    → P (if t then x else y)
by_test P true x y f g = f refl
by_test P false x y f g = g refl

abbrev Holds : ℕ → ℕ → Type 0
Holds n m = (m % 16 ≡ 0) × (n ≤ m) × (m ≤ 1024)

step : (n m rest : ℕ) → m % 16 ≡ 0 → m ≤ 1024 → (m < n → Holds n rest)
    → Holds n (if leb n m then m else rest)
step n m rest whole small more = by_test (Holds n) (leb n m) m rest (λ e. (
  whole,
  leb-true n m e,
  small,
)) (λ e. more (leb-false n m e))

-- the block holds the requested bytes
pub block_holds : (n : ℕ) → n ≤ 1024
    → (block_size n % 16 ≡ 0) × (n ≤ block_size n) × (block_size n ≤ 1024)
block_holds n low =
    step n 32 _ refl (omega arith) (λ _. step n 64 _ refl (omega arith)
    (λ _. step n 128 _ refl (omega arith) (λ _.
    step n 256 _ refl (omega arith) (λ _. step n 512 _ refl (omega arith) (λ _. (
      refl,
      low,
      omega arith,
    ))))))

-- a type of a size that a word holds has that size
pub small_size : (τ : Ty) (n : ℕ) → capped (size τ) ≡ n → n ≤ 1024 → size τ ≡ n
small_size τ n sized low =
    let short = capped_small (size τ) (omega arith) in
    sym (capped_is (size τ) (omega arith)) ∙ sized

pub is_small : (τ : Ty) (n : ℕ) → capped (size τ) ≡ n → n ≤ 1024 → leb (size τ) 1024 ≡ true
is_small τ n sized low = le-leb (size τ) 1024 (omega (arith, small_size τ n sized low))

pub is_large : (τ : Ty) (n : ℕ) → capped (size τ) ≡ n → 1024 < n → leb (size τ) 1024 ≡ false
is_large τ n sized large = by_tests (leb (size τ) 1024) (λ e. let low = leb-true (size τ) 1024 e in
    absurd (omega (arith, capped_is (size τ) (omega arith)))) (λ e. e)
  where
    by_tests : {X : Type 0} (t : Bool) → (t ≡ true → X) → (t ≡ false → X) → X
    by_tests true f g = f refl
    by_tests false f g = g refl
