-- The bytes of a text are bytes.
use Rattle.std.proofs.Common.{◌≡◌, ℕ, zero, suc, ◌<◌, nat_lt, true, List, [], ◌∷◌, ◌++◌, arith, inl, inr, subst}
use Rattle.std.proofs.lemmas.Bool.{ltb-true, cases_Bool, and_parts}
use Rattle.std.specs.Str.{IsUtf8}
use Rattle.base64.specs.GeneralPurpose.{IsBytes}
use lib.Utf8.{encode, encodes, scalar, scalars, scalar_cases}

-- every number is a byte
abbrev pub AreBytes : List ℕ → Type 0
AreBytes [] = Unit {0}
AreBytes (n ∷ ns) = (n < 256) × AreBytes ns

below : (c : ℕ) → scalar c ≡ true → c < 1114112
below c h = elim (scalar_cases c h) [ inl low ↦ omega arith | inr high ↦ high.1 ]

encode_bytes : (c : ℕ) → c < 1114112 → AreBytes (encode c)
unfolding encode
encode_bytes c small = elim (cases_Bool (nat_lt c 128)) [
  | inl one ↦ let k = ltb-true c 128 one in rw one (omega arith, tt)
  | inr more ↦ rw more (elim (cases_Bool (nat_lt c 2048)) [
    | inl two ↦ let k = ltb-true c 2048 two in rw two (omega arith, (omega arith, tt))
    | inr many ↦ rw many (elim (cases_Bool (nat_lt c 65536)) [
      | inl three ↦ let k = ltb-true c 65536 three in
          rw three (omega arith, (omega arith, (omega arith, tt)))
      | inr four ↦ rw four (omega arith, (omega arith, (omega arith, (omega arith, tt))))
    ])
  ])
]

pub bytes_append : (p q : List ℕ) → AreBytes p → AreBytes q → AreBytes (p ++ q)
bytes_append [] q h k = k
bytes_append (b ∷ bs) q h k = (h.0, bytes_append bs q h.1 k)

encodes_bytes : (cs : List ℕ) → scalars cs ≡ true → AreBytes (encodes cs)
encodes_bytes [] h = tt
encodes_bytes (c ∷ cs) h =
    let parts = and_parts (scalar c) (scalars cs) h in
    bytes_append (encode c) (encodes cs) (encode_bytes c (below c parts.0))
    (encodes_bytes cs parts.1)

-- each byte by its index
pub by_index : (bs : List ℕ) → AreBytes bs → IsBytes bs
by_index [] h i = omega arith
by_index (b ∷ bs) h zero = h.0
by_index (b ∷ bs) h (suc i) = by_index bs h.1 i

pub utf8_bytes : (t : List ℕ) → IsUtf8 t → IsBytes t
utf8_bytes t h = let P : List ℕ → Type 0 = λ bs. IsBytes bs in
    subst P h.1.1 (by_index (encodes h.0) (encodes_bytes h.0 h.1.0))

pub utf8_are_bytes : (t : List ℕ) → IsUtf8 t → AreBytes t
utf8_are_bytes t h = let P : List ℕ → Type 0 = λ bs. AreBytes bs in
    subst P h.1.1 (encodes_bytes h.0 h.1.0)

pub from_index : (bs : List ℕ) → IsBytes bs → AreBytes bs
from_index [] h = tt
from_index (b ∷ bs) h = (h 0, from_index bs (λ i. h (suc i)))
