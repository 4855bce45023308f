-- Lists of parts that are read one after another.
use Rattle.std.proofs.Common.{◌≡◌, ℕ, ◌<◌, ◌≤◌, List, [], ◌∷◌, ◌++◌, length, map, take, Some}
use Rattle.std.proofs.Common.{refl, ap, ◌∙◌, arith, take_all}
use Rattle.std.specs.List.{flat_map}
use Rattle.esc_values.specs.Clear.{semicolon_list}
use Rattle.esc_osc_values.specs.Colors.{pairs_of}

pub pairs_end : {X : Type 0} (f : X → List ℕ) (left : List X) → length left < 2
    → pairs_of (map f left) ≡ Some []
pairs_end f [] h = refl
pairs_end f (x ∷ []) h = refl
pairs_end f (x ∷ y ∷ xs) h = absurd (omega arith)

pub flat_map_map : {X : Type 0} (f : X → List ℕ) (rest : List X)
    → flat_map (λ q. 0x3b ∷ q) (map f rest) ≡ flat_map (λ q. 0x3b ∷ f q) rest
flat_map_map f [] = refl
flat_map_map f (x ∷ xs) = ap (λ t. (0x3b ∷ f x) ++ t) (flat_map_map f xs)

-- a part and those after it, joined part by part
pub joined_whole : {X : Type 0} (f : X → List ℕ) (rest : List X) (i : ℕ) (first head bytes : List ℕ)
    → length rest ≤ i → head ≡ first → bytes ≡ head ++ flat_map (λ q. 0x3b ∷ f q) (take i rest)
    → bytes ≡ semicolon_list (first ∷ map f rest)
joined_whole f rest i first head bytes all is was =
    was ∙ rw (is, take_all i rest all, flat_map_map f rest)
