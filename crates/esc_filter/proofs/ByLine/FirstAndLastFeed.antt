-- A line feed that comes first, and one that comes last.
use Rattle.std.proofs.Common.{ℕ, zero, suc, ◌≡◌, ◌≤◌, ◌<◌, ◌+◌, true, false, List, [], ◌∷◌, ◌++◌, length, take, get_or, refl, ap, ◌∙◌, arith}
use Rattle.std.proofs.lemmas.Bool.{false_from_ne_true}
use Rattle.std.proofs.lemmas.Bool.Decides.{nat_tests}
use Rattle.esc_filter.specs.Lines.{is_line_feed, has_line_feed, IsLine}

pub no_line : (x : List ℕ)
    → ((k : ℕ) → 0 ≤ k → k < length x → is_line_feed (get_or x k 0) ≡ true → ⊥)
    → has_line_feed x ≡ false
no_line [] h = refl
no_line (b ∷ x) h =
    rw (false_from_ne_true (is_line_feed b) (h 0 (omega arith) (omega arith)))
    (no_line x (λ k l m. h (suc k) (omega arith) (omega (arith, m))))

-- a first line feed after n bytes
line_at : (x : List ℕ) (n : ℕ) → n < length x
    → ((k : ℕ) → 0 ≤ k → k < n → is_line_feed (get_or x k 0) ≡ true → ⊥)
    → is_line_feed (get_or x n 0) ≡ true
    → (has_line_feed (take n x) ≡ false) × (take (n + 1) x ≡ take n x ++ get_or x n 0 ∷ [])
line_at [] n l h e = absurd (omega (arith, l))
line_at (b ∷ x) zero l h e = (refl, refl)
line_at (b ∷ x) (suc n) l h e =
    let r = line_at x n (omega (arith, l)) (λ k i m. h (suc k) (omega arith) (omega (arith, m))) e
    in (
      rw (false_from_ne_true (is_line_feed b) (h 0 (omega arith) (omega arith))) r.0,
      ap (λ k. take k (b ∷ x)) (more n) ∙ ap (λ y. b ∷ y) r.1,
    )
  where
    more : (n : ℕ) → suc n + 1 ≡ suc (n + 1)
    more n = omega arith

pub first_line : (x : List ℕ) (n : ℕ) → n < length x
    → ((k : ℕ) → 0 ≤ k → k < n → is_line_feed (get_or x k 0) ≡ true → ⊥)
    → is_line_feed (get_or x n 0) ≡ true → IsLine (take (n + 1) x)
first_line x n l h e =
    let r = line_at x n l h e in
    let b : get_or x n 0 ≡ 0x0a = ten (get_or x n 0) e in
    (take n x, r.0, r.1 ∙ ap (λ c. take n x ++ c ∷ []) b)
  where
    ten : (b : ℕ) → is_line_feed b ≡ true → b ≡ 0x0a
    ten b h = grind (arith, nat_tests)
