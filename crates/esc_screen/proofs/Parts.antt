-- Parts of rows, by where they end.
use Rattle.std.proofs.Common.{ℕ, ◌≡◌, ◌-◌, ◌≤◌, List, [], ◌++◌, length, take, drop, min, inl, inr, refl, sym, ap, ◌∙◌, arith}
use Rattle.std.proofs.lemmas.Bool.{cases_lt}
use Rattle.std.proofs.lemmas.List.{length-drop, take-append-drop, take_all, drop_all}
use Rattle.esc_screen.specs.Lists.{in_part, moved_down, moved_up}

-- an end beyond the list is that of the list
ends_alike : {X : Type 0} (m n e : ℕ) (xs : List X) → e ≡ min n (length xs)
    → (take (e - m) (drop m xs) ≡ take (n - m) (drop m xs))
    × (drop (e - m) (drop m xs) ≡ drop (n - m) (drop m xs))
ends_alike m n e xs e_is =
    let rest : length (drop m xs) ≡ length xs - m = length-drop m xs in
    elim (cases_lt (length xs) n) [
      | inl beyond ↦ let is : e ≡ length xs = omega (arith, e_is, beyond) in
          let here : length (drop m xs) ≤ e - m = omega (arith, rest, is) in
          let there : length (drop m xs) ≤ n - m = omega (arith, rest, beyond) in (
            take_all (e - m) (drop m xs) here ∙ sym (take_all (n - m) (drop m xs) there),
            drop_all (e - m) (drop m xs) here ∙ sym (drop_all (n - m) (drop m xs) there),
          )
      | inr within ↦ let is : e ≡ n = omega (arith, e_is, within) in
          (ap (λ k. take (k - m) (drop m xs)) is, ap (λ k. drop (k - m) (drop m xs)) is)
    ]

pub in_part_is : {X : Type 0} (f : List X → List X) (m n e : ℕ) (xs ys : List X)
    → e ≡ min n (length xs) → ys ≡ f (take (e - m) (drop m xs))
    → take m xs ++ (ys ++ drop (e - m) (drop m xs)) ≡ in_part m n f xs
in_part_is f m n e xs ys e_is y =
    let alike = ends_alike m n e xs e_is in
    ap (λ zs. take m xs ++ (zs ++ drop (e - m) (drop m xs))) (y ∙ ap f alike.0)
    ∙ ap (λ zs. take m xs ++ (f (take (n - m) (drop m xs)) ++ zs)) alike.1

-- a part that would end before its beginning is empty
pub in_no_part : {X : Type 0} (f : List X → List X) (m n e : ℕ) (xs : List X) → f [] ≡ []
    → e ≡ min n (length xs) → e ≤ m → xs ≡ in_part m n f xs
in_no_part f m n e xs none e_is le =
    let is : e - m ≡ 0 = omega (arith, le) in
    sym (ap (λ ys. take m xs ++ (ys ++ drop m xs)) none ∙ take-append-drop m xs)
    ∙ ap (λ k. take m xs ++ (f (take k (drop m xs)) ++ drop k (drop m xs))) (sym is)
    ∙ in_part_is f m n e xs (f (take (e - m) (drop m xs))) e_is refl

pub up_none : {X : Type 0} (n : ℕ) (f : List X → List X) → f [] ≡ [] → moved_up n f [] ≡ []
up_none n f none =
    ap (λ xs. xs ++ f (take n [])) (drop_all n [] (omega arith))
    ∙ ap f (take_all n [] (omega arith)) ∙ none

pub down_none : {X : Type 0} (n : ℕ) (f : List X → List X) → f [] ≡ [] → moved_down n f [] ≡ []
down_none n f none =
    ap (λ xs. f xs ++ take (0 - n) []) (drop_all (0 - n) [] (omega arith))
    ∙ ap (λ xs. xs ++ take (0 - n) []) none ∙ take_all (0 - n) [] (omega arith)
