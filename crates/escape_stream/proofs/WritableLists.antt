-- A loop goes through a list from its first action: the facts that it finds.
use Rattle.std.proofs.Common.{ℕ, ◌≡◌, ◌<◌, ◌≤◌, ◌+◌, ◌↔◌, Bool, true, false, not, List, [], ◌∷◌, length, map, drop, get_or, IsTrue, refl, sym, ap, subst, ◌∙◌}
use Rattle.std.proofs.lemmas.List.{drop_all, drop_more}
use Rattle.esc_actions.specs.Values.{Value}
use Rattle.esc_actions.specs.Writable.{AreWritableFrom, IsWritable, is_within, stays_within}

pub false_is_not : false ≡ true → ⊥
false_is_not e = cc

one_more : {A : Type 0} (P : Type 0) (w : Bool) (v : Value A) (vs : List (Value A))
    → (P ↔ AreWritableFrom w (v ∷ vs)) → is_within v ≡ w → IsWritable v
    → P ↔ AreWritableFrom (stays_within v) vs
one_more P w v vs left e h = (λ p. (left.0 p).2, λ k. left.1 (e, h, k))

-- P says that the whole list is writable, which it is if the rest of the list is. x is the next
-- action:
module _ {T A : Type 0} (f : T → Value A) (P : Type 0) (w : Bool) (xs : List T) (i : ℕ) (x : T)
    (is : x ≡ get_or xs i x) (h : i < length xs)
    (left : P ↔ AreWritableFrom w (map f (drop i xs))) where
  next_left : P ↔ AreWritableFrom w (f x ∷ map f (drop (i + 1) xs))
  next_left =
      let Q : List (Value A) → Type 0 = λ l. P ↔ AreWritableFrom w l in
      subst Q (ap (map f) (drop_more xs i x h)
      ∙ ap (λ y. f y ∷ map f (drop (i + 1) xs)) (sym is)) left

  pub turn : (stays : Bool) → is_within (f x) ≡ w → IsWritable (f x) → stays ≡ stays_within (f x)
      → P ↔ AreWritableFrom stays (map f (drop (i + 1) xs))
  turn stays e k s =
      let R : Bool → Type 0 = λ b. P ↔ AreWritableFrom b (map f (drop (i + 1) xs)) in
      subst R (sym s) (one_more P w (f x) (map f (drop (i + 1) xs)) next_left e k)

  -- if it is not writable, the list is not
  pub not_itself : (IsWritable (f x) → ⊥) → IsTrue false ↔ P
  not_itself n = (λ t. absurd (false_is_not t), λ p. absurd (n (next_left.0 p).1))

  pub out_of_place : (is_within (f x) ≡ w → ⊥) → IsTrue false ↔ P
  out_of_place n = (λ t. absurd (false_is_not t), λ p. absurd (n (next_left.0 p).0))

outside : (w : Bool) → not w ≡ true → false ≡ w
outside false h = refl
outside true h = h

at_none : (A P : Type 0) (w : Bool) → (P ↔ AreWritableFrom {A = A} w []) → IsTrue (not w) ↔ P
at_none A P w left = (λ t. left.1 (outside w t), λ p. sym (ap not (left.0 p)))

-- nothing is left
pub at_end : {T A : Type 0} (f : T → Value A) (P : Type 0) (w : Bool) (xs : List T) (i : ℕ)
    → length xs ≤ i → (P ↔ AreWritableFrom w (map f (drop i xs)))
    → IsTrue (not w) ↔ P
at_end {A = A} f P w xs i h left = let Q : List (Value A) → Type 0 = λ l. P ↔ AreWritableFrom w l in
    at_none A P w (subst Q (ap (map f) (drop_all i xs h)) left)
