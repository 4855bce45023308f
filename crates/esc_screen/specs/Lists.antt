-- Parts of lists, and what is done several times.
use Rattle.std.specs.Prelude.{ℕ, zero, suc, ◌-◌, List, ◌++◌, length, take, drop}

-- a list of which the part from one place to before another is changed so
abbrev pub in_part : {X : Type 0} → ℕ → ℕ → (List X → List X) → List X → List X
in_part m n f xs = take m xs ++ (f (take (n - m) (drop m xs)) ++ drop (n - m) (drop m xs))

-- the first so many, changed so, come after the others
abbrev pub moved_up : {X : Type 0} → ℕ → (List X → List X) → List X → List X
moved_up n f xs = drop n xs ++ f (take n xs)

-- the last so many, changed so, come before the others
abbrev pub moved_down : {X : Type 0} → ℕ → (List X → List X) → List X → List X
moved_down n f xs = f (drop (length xs - n) xs) ++ take (length xs - n) xs

-- the first so many come last; and the last so many first
abbrev pub turned_up : {X : Type 0} → ℕ → List X → List X
turned_up n xs = drop n xs ++ take n xs

abbrev pub turned_down : {X : Type 0} → ℕ → List X → List X
turned_down n xs = drop (length xs - n) xs ++ take (length xs - n) xs

-- a function applied so many times
abbrev pub times : {X : Type 0} → ℕ → (X → X) → X → X
times zero f x = x
times (suc n) f x = f (times n f x)
