-- Keys and values of clear parts.
use Rattle.std.proofs.Common.{ℕ, ◌≡◌, List, ◌∷◌, ◌++◌, Some, None, lit<, refl}
use Rattle.std.specs.Option.{option_map}
use Rattle.esc_values.specs.Clear.{IsClearPart}
use Rattle.esc_values.specs.Cuts.{cut_at, key_and_value}
use Rattle.esc_values.specs.Scalars.{and_then, utf8_of}
use Rattle.esc_values.proofs.Clear.ClearTexts.{part_utf8_of}
use Rattle.esc_values.proofs.Clear.CutAtCharacter.{Free, FirstFree, BothClear, cut_lacks, cut_clear, cut_there}
use Rattle.esc_values.proofs.Numbers.FactsIfSome.{Where, where_map, where_then, where_both, utf8_keeps}

-- a key and a value that are clear parts, the key without `=`
abbrev pub IsClearPair : List ℕ × List ℕ → Type 0
IsClearPair e = BothClear e × FirstFree 0x3d e

-- a property of both sides of the first `=` is one of the key and the value
pub key_keeps : (P : List ℕ × List ℕ → Type 0) (t : List ℕ) → Where P (cut_at 0x3d t)
    → Where P (key_and_value t)
key_keeps P t h =
    where_then P P (λ (c : List ℕ × List ℕ). and_then (utf8_of c.0) (λ k.
    option_map (λ v. (k, v)) (utf8_of c.1)))
    (λ c p. where_then (λ k. P (k, c.1)) P (λ k. option_map (λ v. (k, v)) (utf8_of c.1))
    (λ k q. where_map (λ v. P (k, v)) P (λ v. (k, v)) (λ v r.
    r) (utf8_of c.1) (utf8_keeps (λ v. P (k, v)) c.1 q))
    (utf8_of c.0) (utf8_keeps (λ k. P (k, c.1)) c.0 p))
    (cut_at 0x3d t) h

pub key_clear : (t : List ℕ) → IsClearPart t → Where IsClearPair (key_and_value t)
key_clear t h =
    key_keeps IsClearPair t (where_both BothClear (FirstFree 0x3d) (cut_at 0x3d t)
    (cut_clear 0x3d t (lit< tt) h) (cut_lacks 0x3d t))

-- a clear key without `=`, `=`, and a clear value are read as these two
pub key_back : (k v : List ℕ) → IsClearPart k → Free 0x3d k → IsClearPart v
    → key_and_value (k ++ 0x3d ∷ v) ≡ Some (k, v)
key_back k v h lacks q = rw (cut_there 0x3d k v lacks, part_utf8_of k h, part_utf8_of v q) refl

-- a text without `=` is no key and value
pub key_none : (t : List ℕ) → Free 0x3d t → key_and_value t ≡ None
key_none t lacks = rw lacks refl
