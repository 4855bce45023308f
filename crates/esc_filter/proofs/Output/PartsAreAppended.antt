-- Parts of a text that are appended one after another.
use Rattle.std.proofs.Common.{◌≡◌, ℕ, ◌+◌, ◌<◌, length, nat_eq, not, Bool, List, [], ◌∷◌, ◌++◌, map, take, get_or, refl, sym, ap, ◌∙◌, append-nil, append_assoc, arith}
use Rattle.std.proofs.lemmas.Bool.{ne_eqb}
use Rattle.std.proofs.lemmas.List.{take_more}
use Rattle.esc_values.specs.declared.csi_param.CsiParam.{CsiParam}
use Rattle.esc_filter.specs.Closing.{joined_lists}
use Rattle.esc_filter.specs.Terminal.{has_params}

pub joined_both : (xs ys : List (List ℕ)) → joined_lists (xs ++ ys) ≡ joined_lists xs
    ++ joined_lists ys
joined_both [] ys = refl
joined_both (x ∷ xs) ys =
    ap (λ t. x ++ t) (joined_both xs ys) ∙ sym (append_assoc x (joined_lists xs) (joined_lists ys))

map_both : {X : Type 0} (f : X → List ℕ) (xs ys : List X) → map f (xs ++ ys) ≡ map f xs ++ map f ys
map_both f [] ys = refl
map_both f (x ∷ xs) ys = ap (λ t. f x ∷ t) (map_both f xs ys)

-- one part more
pub one_more : {X : Type 0} (f : X → List ℕ) (xs : List X) (i : ℕ) (d : X) (a t u : List ℕ)
    → i < length xs → t ≡ a ++ joined_lists (map f (take i xs)) → u ≡ t ++ f (get_or xs i d)
    → u ≡ a ++ joined_lists (map f (take (i + 1) xs))
one_more f xs i d a t u lt so_far next =
    let x = f (get_or xs i d) in
    next ∙ ap (λ y. y ++ x) so_far ∙ append_assoc a (joined_lists (map f (take i xs))) x
    ∙ ap (λ y. a ++ (joined_lists (map f (take i xs)) ++ y)) (sym (append-nil x))
    ∙ ap (λ y. a ++ y) (sym (joined_both (map f (take i xs)) (x ∷ [])))
    ∙ ap (λ y. a ++ joined_lists y) (sym (map_both f (take i xs) (get_or xs i d ∷ [])))
    ∙ ap (λ y. a ++ joined_lists (map f y)) (sym (take_more xs i d lt))

-- whether there are parameters
pub some_params : (es : List CsiParam) (b : Bool) → b ≡ nat_eq (length es) 0
    → not b ≡ has_params es
some_params [] b h = ap not h
some_params (e ∷ es) b h = ap not (h ∙ ne_eqb (length (e ∷ es)) 0 (λ k. omega (arith, k)))
