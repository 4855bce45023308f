-- Texts and their keys.
use Rattle.std.proofs.Common.{◌≡◌, ◌≢◌, nat_eq, false, inl, inr, ℕ, ◌+◌, ◌*◌, ◌<◌, ◌≤◌, List, [], ◌∷◌, refl, ap, ◌∙◌, sym, arith}
use Rattle.std.specs.Cmp.Lexicographic.{pointwise, same_text}
use Rattle.std.proofs.lemmas.Bool.{cases_Bool}
use Rattle.std.specs.Str.{IsUtf8}
use Rattle.esc_values.proofs.Codecs.TextBytesAreBytes.{AreBytes, utf8_are_bytes}
use Rattle.esc_osc_values.specs.Codes.{code_text, text_key}
use Rattle.esc_osc_values.specs.declared.code.OperatingSystemCommandCode.{OperatingSystemCommandCode}
use Rattle.esc_osc_values.specs.declared.code.OperatingSystemCommandCode.TheVariants as code

-- the bytes of a text after the number p, in base 256
abbrev packed : ℕ → List ℕ → ℕ
packed p [] = p
packed p (b ∷ bs) = packed (256 * p + b) bs

packed_grows : (p : ℕ) (bs : List ℕ) → p ≤ packed p bs
packed_grows p [] = omega arith
packed_grows p (b ∷ bs) = let more = packed_grows (256 * p + b) bs in omega arith

-- if neither of two numbers has a byte more than the other, they are packed to one number only with
-- equal bytes
packed_same : (p q : ℕ) (x y : List ℕ) → AreBytes x → AreBytes y → p < 256 * q → q < 256 * p
    → packed p x ≡ packed q y → (p ≡ q) × (x ≡ y)
packed_same p q [] [] bx by pq qp e = (e, refl)
packed_same p q [] (b ∷ y) bx by pq qp e =
    absurd (let more = packed_grows (256 * q + b) y in omega arith)
packed_same p q (a ∷ x) [] bx by pq qp e =
    absurd (let more = packed_grows (256 * p + a) x in omega arith)
packed_same p q (a ∷ x) (b ∷ y) bx by pq qp e =
    let ha : a < 256 = bx.0 in
    let hb : b < 256 = by.0 in
    let rest =
    packed_same (256 * p + a) (256 * q + b) x y bx.1 by.1 (omega arith) (omega arith) e in
    let sums : 256 * p + a ≡ 256 * q + b = rest.0 in
    let heads : a ≡ b = omega arith in
    (omega arith, ap (λ h. h ∷ x) heads ∙ ap (λ t. b ∷ t) rest.1)

packed_key : (t : List ℕ) → 0 < text_key t → text_key t ≡ packed 1 t
packed_key [] h = absurd (omega arith)
packed_key (a ∷ []) h = omega arith
packed_key (a ∷ b ∷ []) h = omega arith
packed_key (a ∷ b ∷ c ∷ []) h = omega arith
packed_key (a ∷ b ∷ c ∷ d ∷ []) h = omega arith
packed_key (a ∷ b ∷ c ∷ d ∷ e ∷ t) h = absurd (omega arith)

key_some : (c : OperatingSystemCommandCode) → 0 < text_key (code_text c)
key_some code.SetIconNameAndWindowTitle = omega arith
key_some c = omega arith

code_bytes : (c : OperatingSystemCommandCode) → AreBytes (code_text c)
code_bytes code.SetIconNameAndWindowTitle = search arith
code_bytes c = search arith

-- a text whose key is that of a code is the code's text
pub same_key : (t : List ℕ) (c : OperatingSystemCommandCode) → IsUtf8 t
    → text_key (code_text c) ≡ text_key t → t ≡ code_text c
same_key t c utf8 same =
    let of_code = key_some c in
    let of_text : 0 < text_key t = rw same at of_code in
    (packed_same 1 1 t (code_text c) (utf8_are_bytes t utf8) (code_bytes c) (omega arith)
    (omega arith) (sym (packed_key t of_text) ∙ sym same ∙ packed_key (code_text c) of_code)).1

-- a text of another key is not the code's
pub other_key : (t : List ℕ) (c : OperatingSystemCommandCode) → text_key (code_text c) ≢ text_key t
    → pointwise nat_eq t (code_text c) ≡ false
other_key t c other =
    elim (cases_Bool (pointwise nat_eq t (code_text c))) [
      | inl held ↦ absurd (other (sym (ap text_key (same_text t (code_text c) (sym held)))))
      | inr failed ↦ failed
    ]
