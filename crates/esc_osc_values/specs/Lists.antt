-- Lists of parts: how they are read, and how the texts of items are joined.
use Rattle.std.specs.Prelude.{ℕ, ◌==◌, if◌then◌else◌, List, [], ◌∷◌, ◌++◌, length, Option, Some, None}
use Rattle.std.specs.List.{flat_map}
use Rattle.std.specs.Option.{option_map}
use Rattle.esc_values.specs.Clear.{semicolon_list}
use Rattle.esc_values.specs.Scalars.{and_then, utf8_of, number_of}

-- the parts joined by `;`, where there is one and they are a text
abbrev pub title_of : List (List ℕ) → Option (List ℕ)
title_of [] = None
title_of (p ∷ ps) = utf8_of (semicolon_list (p ∷ ps))

-- the text of one part alone
abbrev pub lone_text : List (List ℕ) → Option (List ℕ)
lone_text (p ∷ []) = utf8_of p
lone_text ps = None

-- numbers of 8 bits; an empty part is skipped
abbrev pub numbers_of : List (List ℕ) → Option (List ℕ)
numbers_of [] = Some []
numbers_of (p ∷ ps) = if length p == 0 then numbers_of ps
    else and_then (number_of 8 p) (λ n. option_map (λ more. n ∷ more) (numbers_of ps))

-- the texts of the items, with `;` between them
abbrev pub joined_by : {X : Type 0} → (X → List ℕ) → List X → List ℕ
joined_by f [] = []
joined_by f (x ∷ xs) = f x ++ flat_map (λ y. 0x3b ∷ f y) xs
