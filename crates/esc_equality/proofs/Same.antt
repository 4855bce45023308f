-- Tests that hold exactly for equal values, and the tests that are put together of them.
use Rattle.std.specs.Prelude.{◌≡◌, ◌↔◌, ℕ, nat_eq, Bool, true, false, ◌&&◌, List, [], ◌∷◌, Some, None, IsTrue}
use Rattle.std.specs.Cmp.Lexicographic.{pointwise}
use Rattle.std.specs.Option.{option_eq}
use Rattle.std.specs.Ordering.{int_eq}
use Rattle.std.proofs.Common.{rules, ap, refl}
use Rattle.std.proofs.Math.Bool.{beq}
use Rattle.std.proofs.lemmas.Bool.{and_parts}

-- the test holds exactly of equal values
abbrev pub IsSame : {X : Type 0} → (X → X → Bool) → Type 0
IsSame {X = X} E = (x y : X) → IsTrue (E x y) ↔ (x ≡ y)

-- the test of two different constructors never says this
pub never : {P : Type 0} → false ≡ true → P
never h = absurd cc

pub numbers : IsSame nat_eq
numbers x y = search rules

pub integers : IsSame int_eq
integers x y = search rules

pub bools : IsSame beq
bools x y = search rules

-- two tests at once
pub both : {a b : Bool} {P Q : Type 0} → IsTrue a ↔ P → IsTrue b ↔ Q → IsTrue (a && b) ↔ (P × Q)
both {a = a} {b = b} p q = (
  λ h. let r = and_parts a b h in (p.0 r.0, q.0 r.1),
  λ e. rw (p.1 e.0, q.1 e.1) refl,
)

-- values that may be missing
pub options : {X : Type 0} (E : X → X → Bool) → IsSame E → IsSame (option_eq E)
options E same None None = (λ h. refl, λ e. refl)
options E same None (Some y) = (λ h. never h, λ e. absurd cc)
options E same (Some x) None = (λ h. never h, λ e. absurd cc)
options E same (Some x) (Some y) = (
  λ h. ap Some ((same x y).0 h),
  λ e. let q : x ≡ y = cc in
      (same x y).1 q,
)

lists_true : {X : Type 0} (E : X → X → Bool) → IsSame E → (xs ys : List X)
    → pointwise E xs ys ≡ true → xs ≡ ys
lists_true E same [] [] h = refl
lists_true E same [] (y ∷ ys) h = cc
lists_true E same (x ∷ xs) [] h = cc
lists_true E same (x ∷ xs) (y ∷ ys) h =
    let q = and_parts (E x y) (pointwise E xs ys) h in
    let head = (same x y).0 q.0 in
    let tail = lists_true E same xs ys q.1 in
    cc

lists_itself : {X : Type 0} (E : X → X → Bool) → IsSame E → (xs : List X) → pointwise E xs xs ≡ true
lists_itself E same [] = refl
lists_itself E same (x ∷ xs) = rw ((same x x).1 refl, lists_itself E same xs) refl

-- lists, compared item by item
pub lists : {X : Type 0} (E : X → X → Bool) → IsSame E → IsSame (pointwise E)
lists E same xs ys = (lists_true E same xs ys, λ e. rw e (lists_itself E same ys))

pub texts : IsSame (pointwise nat_eq)
texts = lists nat_eq numbers

-- two texts, compared one after the other
abbrev pub text_pair : List ℕ × List ℕ → List ℕ × List ℕ → Bool
text_pair p q = pointwise nat_eq p.0 q.0 && pointwise nat_eq p.1 q.1

pub text_pairs : IsSame text_pair
text_pairs (a, b) (c, d) =
    let parts = both (texts a c) (texts b d) in (
      λ h. let e = parts.0 h in let first = e.0 in let second = e.1 in
          cc,
      λ e. parts.1 (ap (λ p. p.0) e, ap (λ p. p.1) e),
    )
