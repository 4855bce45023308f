-- Texts of numbers, and which characters they have.
use Rattle.std.proofs.Common.{ℕ, suc, ℤ, pos, negsuc, ◌≡◌, ◌<◌, Bool, true, false, not, nat_eq, ◌&&◌, ◌==◌, List, [], ◌∷◌, length, Option, Some, None}
use Rattle.std.proofs.Common.{drop, refl, arith, zero, inl, inr}
use Rattle.std.specs.Cmp.Lexicographic.{pointwise}
use Rattle.std.specs.Fmt.{signed_decimal}
use Rattle.std.specs.List.{list_all}
use Rattle.std.proofs.lemmas.Bool.{eqb-true, cases_Bool, and_parts}
use Rattle.std.proofs.lemmas.Fmt.{decimal_nonempty}
use Rattle.esc_values.specs.Scalars.{IsSigned}
use Rattle.esc_values.proofs.Clear.PlainPartsAreClear.{is_part_plain}

-- from space to delete, but neither `;` nor `:`
abbrev pub is_key_plain : ℕ → Bool
is_key_plain c = is_part_plain c && not (c == 0x3a)

-- the same, but not `=`
abbrev pub is_name : ℕ → Bool
is_name c = is_key_plain c && not (c == 0x3d)

abbrev pub is_value : Option (List ℕ) → Bool
is_value None = true
is_value (Some v) = list_all is_key_plain v

-- a text that passes a test passes one that follows from it
passes : (f g : ℕ → Bool) → ((c : ℕ) → f c ≡ true → g c ≡ true) → (t : List ℕ)
    → list_all f t ≡ true → list_all g t ≡ true
passes f g more [] h = refl
passes f g more (c ∷ t) h = let q = and_parts (f c) (list_all f t) h in
    rw (more c q.0, passes f g more t q.1) refl

pub key_plain_part : (t : List ℕ) → list_all is_key_plain t ≡ true → list_all is_part_plain t ≡ true
key_plain_part t h = passes is_key_plain is_part_plain (λ c k.
    (and_parts (is_part_plain c) (not (c == 0x3a)) k).0) t h

pub name_plain : (t : List ℕ) → list_all is_name t ≡ true → list_all is_key_plain t ≡ true
name_plain t h = passes is_name is_key_plain (λ c k.
    (and_parts (is_key_plain c) (not (c == 0x3d)) k).0) t h

-- a number has at least one character
pub signed_some : (z : ℤ) → IsSigned 64 z → 0 < length (signed_decimal z)
signed_some (pos n) h = decimal_nonempty n (omega arith)
signed_some (negsuc n) h = omega arith

-- a text that passes a test differs from one that begins with a character that does not
pub differs : (f : ℕ → Bool) (u : List ℕ) (c : ℕ) (e : List ℕ) → list_all f u ≡ true → f c ≡ false
    → pointwise nat_eq u (c ∷ e) ≡ false
differs f [] c e h fails = refl
differs f (x ∷ u) c e h fails =
    let q = and_parts (f x) (list_all f u) h in
    elim (cases_Bool (nat_eq x c)) [
      | inl same ↦ absurd (let k : x ≡ c = eqb-true x c same in let one = q.0 in
          let bad : f c ≡ true = rw k at one in cc)
      | inr other ↦ rw other refl
    ]

pub drop_passes : (f : ℕ → Bool) (n : ℕ) (t : List ℕ) → list_all f t ≡ true
    → list_all f (drop n t) ≡ true
drop_passes f zero t h = h
drop_passes f (suc n) [] h = refl
drop_passes f (suc n) (c ∷ t) h = drop_passes f n t (and_parts (f c) (list_all f t) h).1
