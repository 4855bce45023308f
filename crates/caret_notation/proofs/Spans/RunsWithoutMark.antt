-- Runs of bytes that have no mark.
use Rattle.std.proofs.Common.{ℕ, zero, suc, ◌≡◌, ◌<◌, ◌≤◌, ◌&&◌, Bool, true, false, List, [], ◌∷◌, length, get_or, take, arith, refl, ap, sym, ◌∙◌, subst}
use Rattle.std.specs.List.{list_all, list_any}
use Rattle.std.proofs.lemmas.Bool.{and_parts, false_from_ne_true}
use Rattle.std.proofs.lemmas.List.{get_or-take, length-take-le, take-take}
use Rattle.esc_frame.specs.Scans.{IsFreeTo}
use Rattle.caret_notation.specs.Visible.{is_mark, lets_stay}
use Rattle.caret_notation.specs.declared.marking.Marking.{Marking}
use Rattle.caret_notation.specs.declared.marking.Marking.TheVariants as marking

pub none_marked : (x : List ℕ)
    → ((k : ℕ) → 0 ≤ k → k < length x → is_mark (get_or x k 0) ≡ true → ⊥)
    → list_any is_mark x ≡ false
none_marked [] h = refl
none_marked (b ∷ x) h =
    rw (false_from_ne_true (is_mark b) (h 0 (omega arith) (omega arith)))
    (none_marked x (λ k l m. h (suc k) (omega arith) (omega (arith, m))))

pub before_mark : (x : List ℕ) (n : ℕ) → n < length x
    → ((k : ℕ) → 0 ≤ k → k < n → is_mark (get_or x k 0) ≡ true → ⊥)
    → list_any is_mark (take n x) ≡ false
before_mark x n l h = none_marked (take n x) (λ k a b e.
    let short : k < n = omega (arith, b, length-take-le n x (omega (arith, l))) in
    h k a short (ap is_mark (sym (get_or-take n x k 0 short)) ∙ e))

-- bytes without one may stay
pub unmarked_stays : (m : Marking) (x : List ℕ) → list_any is_mark x ≡ false
    → lets_stay m x ≡ true
unmarked_stays marking.Plain x h = refl
unmarked_stays marking.Escaped x h = rw h refl
unmarked_stays marking.Reversed x h = refl

pub nothing_stays : (m : Marking) → lets_stay m [] ≡ true
nothing_stays m = unmarked_stays m [] refl

-- the same for some of the first bytes
pub shorter_unmarked : (m : Marking) (x : List ℕ) (k n : ℕ) → k ≤ n
    → list_any is_mark (take k (take n x)) ≡ false → lets_stay m (take k x) ≡ true
shorter_unmarked m x k n l h =
    unmarked_stays m (take k x)
    (subst (λ y. list_any is_mark y ≡ false) (take-take k n x l) h)

all_take : (p : ℕ → Bool) (k : ℕ) (x : List ℕ) → list_all p x ≡ true
    → list_all p (take k x) ≡ true
all_take p zero x h = refl
all_take p (suc k) [] h = refl
all_take p (suc k) (b ∷ x) h =
    let q = and_parts (p b) (list_all p x) h in
    ap (λ t. t && list_all p (take k x)) q.0 ∙ all_take p k x q.1

pub shorter_all : (p : ℕ → Bool) (x : List ℕ) (k n : ℕ) → k ≤ n → list_all p (take n x) ≡ true
    → list_all p (take k x) ≡ true
shorter_all p x k n l h =
    subst (λ y. list_all p y ≡ true) (take-take k n x l) (all_take p k (take n x) h)

pub shorter_free : (x : List ℕ) (k n : ℕ) → k ≤ n → IsFreeTo x n → IsFreeTo x k
shorter_free x k n l h i m = h i (omega (arith, l, m))
