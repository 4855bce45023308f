-- Bytes that are cut at a character, and keys with their values.
use Rattle.std.specs.Prelude.{ℕ, nat_eq, not, ◌==◌, if◌then◌else◌, List, [], ◌∷◌, ◌++◌, length, Option, Some, None}
use Rattle.std.specs.Cmp.Lexicographic.{pointwise}
use Rattle.std.specs.List.{filter}
use Rattle.std.specs.Option.{option_map}
use Rattle.esc_values.specs.Scalars.{and_then, utf8_of}

-- the bytes before and after the first c
abbrev pub cut_at : ℕ → List ℕ → Option (List ℕ × List ℕ)
cut_at c [] = None
cut_at c (b ∷ bs) = if b == c then Some ([], bs) else option_map (λ (p : List ℕ
    × List ℕ). (b ∷ p.0, p.1)) (cut_at c bs)

-- a key and its value: texts, with the first `=` between them
abbrev pub key_and_value : List ℕ → Option (List ℕ × List ℕ)
key_and_value p = and_then (cut_at 0x3d p) (λ (c : List ℕ × List ℕ). and_then (utf8_of c.0) (λ k.
    option_map (λ v. (k, v)) (utf8_of c.1)))

-- a key, `=` and its value
abbrev pub pair_text : List ℕ × List ℕ → List ℕ
pair_text e = e.0 ++ 0x3d ∷ e.1

-- keys with their values
abbrev pub Pairs : Type 0
Pairs = List (List ℕ × List ℕ)

-- the slices as keys and values, if each is one
abbrev pub pairs_in : List (List ℕ) → Option Pairs
pairs_in [] = Some []
pairs_in (p ∷ ps) = and_then (key_and_value p) (λ e. option_map (λ es. e ∷ es) (pairs_in ps))

-- the slices that are not empty
abbrev pub without_empty : List (List ℕ) → List (List ℕ)
without_empty ps = filter (λ p. not (length p == 0)) ps

-- the value of the last pair with this key; if there is none, the one found before
abbrev pub last_value : List ℕ → Option (List ℕ) → Pairs → Option (List ℕ)
last_value k found [] = found
last_value k found (e ∷ es) = last_value k (if pointwise nat_eq e.0 k then Some e.1 else found) es
