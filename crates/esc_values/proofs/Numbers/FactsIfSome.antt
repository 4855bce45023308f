-- The facts about a value if there is one.
use Rattle.std.proofs.Common.{ℕ, ◌≡◌, ◌<◌, ◌^◌, Bool, true, false, if◌then◌else◌, ◌&&◌, nat_lt, inl, inr, List, length, Option, Some, None, refl}
use Rattle.std.specs.Option.{option_map}
use Rattle.std.specs.Prelude.{IfSome}
use Rattle.std.specs.Str.{IsUtf8, is_utf8, all_ascii_digits}
use Rattle.std.specs.Str.Parse.{without_leading_plus, digits_value}
use Rattle.std.proofs.lemmas.Str.{IsUtf8-from_is_utf8}
use Rattle.std.proofs.lemmas.Bool.{cases_Bool}
use Rattle.esc_values.specs.Base64.{base64_of, base64_text_of}
use Rattle.esc_values.specs.Scalars.{and_then, utf8_of, number_of}
use Rattle.esc_values.proofs.Numbers.ParseIsNumber.{numeral_from_test}

abbrev pub Where : {X : Type 0} → (X → Type 0) → Option X → Type 0
Where P o = IfSome o P

pub where_from : {X : Type 0} (P : X → Type 0) (o : Option X) → ((x : X) → o ≡ Some x → P x)
    → Where P o
where_from P None h = tt
where_from P (Some x) h = h x refl

pub where_if : {X : Type 0} (P : X → Type 0) (b : Bool) (x y : Option X) → Where P x → Where P y
    → Where P (if b then x else y)
where_if P true x y h k = h
where_if P false x y h k = k

pub where_map : {X Y : Type 0} (P : X → Type 0) (Q : Y → Type 0) (f : X → Y)
    → ((x : X) → P x → Q (f x)) → (o : Option X) → Where P o → Where Q (option_map f o)
where_map P Q f k None h = tt
where_map P Q f k (Some x) h = k x h

pub where_then : {X Y : Type 0} (P : X → Type 0) (Q : Y → Type 0) (f : X → Option Y)
    → ((x : X) → P x → Where Q (f x)) → (o : Option X) → Where P o
    → Where Q (and_then o f)
where_then P Q f k None h = tt
where_then P Q f k (Some x) h = k x h

pub where_both : {X : Type 0} (P Q : X → Type 0) (o : Option X) → Where P o → Where Q o
    → Where (λ x. P x × Q x) o
where_both P Q None h k = tt
where_both P Q (Some x) h k = (h, k)

pub number_where : (k : ℕ) (bs : List ℕ) → Where (λ n. n < 2 ^ k) (number_of k bs)
number_where k bs =
    elim (cases_Bool (nat_lt 0 (length (without_leading_plus bs))
    && all_ascii_digits (without_leading_plus bs)
    && nat_lt (digits_value 10 (without_leading_plus bs)) (2 ^ k))) [
      | inl held ↦ let small = (numeral_from_test k (without_leading_plus bs) held).1 in
          rw held small
      | inr failed ↦ rw failed tt
    ]

pub utf8_where : (bs : List ℕ) → Where (λ t. IsUtf8 t) (utf8_of bs)
utf8_where bs =
    elim (cases_Bool (is_utf8 bs)) [
      | inl held ↦ rw held (IsUtf8-from_is_utf8 bs held)
      | inr failed ↦ rw failed tt
    ]

pub utf8_keeps : (P : List ℕ → Type 0) (bs : List ℕ) → P bs → Where P (utf8_of bs)
utf8_keeps P bs h =
    elim (cases_Bool (is_utf8 bs)) [
      | inl held ↦ rw held h
      | inr failed ↦ rw failed tt
    ]

abbrev pub Anything : {X : Type 0} → X → Type 0
Anything x = Unit {0}

pub anything : {X : Type 0} (o : Option X) → Where (λ (x : X). Anything x) o
anything None = tt
anything (Some x) = tt

pub content_where : (t : List ℕ) → Where (λ u. IsUtf8 u) (base64_text_of t)
content_where t = where_then (λ (bs : List ℕ). Anything bs) (λ u. IsUtf8 u) utf8_of (λ bs h.
    utf8_where bs) (base64_of t) (anything (base64_of t))
