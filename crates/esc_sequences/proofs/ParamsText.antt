-- The text of a body's parameters has these parameters.
use Rattle.std.proofs.Common.{ℕ, ◌≡◌, ◌+◌, ◌-◌, ◌*◌, ◌<◌, ◌^◌, Bool, true, false, not, if◌then◌else◌, ◌&&◌, List, [], ◌∷◌, ◌++◌, length, Option, Some}
use Rattle.std.proofs.Common.{None, refl, ap, ◌∙◌, arith, rules}
use Rattle.std.specs.Prelude.{pos}
use Rattle.std.specs.Char.{encode_utf8}
use Rattle.std.specs.Fmt.{decimal}
use Rattle.std.specs.List.{list_all}
use Rattle.std.proofs.lemmas.Bool.Decides.{nat_tests}
use Rattle.std.proofs.lemmas.Fmt.{digits_decimal, digits_value-decimal, decimal_nonempty}
use Rattle.std.proofs.lemmas.List.Folds.{list_all-append}
use Rattle.std.proofs.lemmas.Str.{encode_ascii}
use Rattle.std.proofs.lemmas.Str.Parse.{IsNumeralModel, numerals_by_fold}
use Rattle.std.proofs.lemmas.Bool.{and_parts}
use Rattle.esc_values.specs.declared.csi_param.CsiParam.{CsiParam}
use Rattle.esc_values.specs.declared.csi_param.CsiParam.TheVariants.{Integer, P}
use Rattle.esc_values.specs.Params.{is_digit, is_body_byte, capped_at_i64, value_after, csi_params_after, csi_params, csi_params_text}
use Rattle.esc_sequences.proofs.Bodies.{digit_in_body}

abbrev are_digits : List ℕ → Bool
are_digits [] = true
are_digits (b ∷ bs) = is_digit b && are_digits bs

own : IsNumeralModel (λ ds. are_digits ds ≡ true) (value_after 0)
own = numerals_by_fold _ (search rules) value_after (search rules)

-- no digit stands in prefix
abbrev pub no_digit : List ℕ → Bool
no_digit [] = true
no_digit (b ∷ bs) = not (is_digit b)

end_by : (n b : ℕ) (r : List ℕ) (t : Bool) → not t ≡ true
    → (if t then csi_params_after (Some (10 * n + (b - 0x30))) r
    else Integer (pos (capped_at_i64 n)) ∷ P b
    ∷ csi_params_after None r)
    ≡ Integer (pos (capped_at_i64 n)) ∷ (if t then csi_params_after (Some (b - 0x30)) r else P b
    ∷ csi_params_after None r)
end_by n b r true h = absurd cc
end_by n b r false h = refl

end_is : (n : ℕ) (r : List ℕ) → no_digit r ≡ true
    → csi_params_after (Some n) r ≡ Integer (pos (capped_at_i64 n)) ∷ csi_params r
end_is n [] h = refl
end_is n (b ∷ r) h = end_by n b r (is_digit b) h

-- a run of digits in prefix is a number
run_is : (n : ℕ) (ds r : List ℕ) → are_digits ds ≡ true → no_digit r ≡ true
    → csi_params_after (Some n) (ds ++ r) ≡ Integer (pos (capped_at_i64 (value_after n ds)))
    ∷ csi_params r
run_is n [] r h k = end_is n r k
run_is n (d ∷ ds) r h k = let q = and_parts (is_digit d) (are_digits ds) h in
    rw q.0 (run_is (10 * n + (d - 0x30)) ds r q.1 k)

digits_are : (ds r : List ℕ) → 0 < length ds → are_digits ds ≡ true → no_digit r ≡ true
    → csi_params (ds ++ r) ≡ Integer (pos (capped_at_i64 (value_after 0 ds))) ∷ csi_params r
digits_are [] r some h k = absurd (omega arith)
digits_are (d ∷ ds) r some h k =
    let q = and_parts (is_digit d) (are_digits ds) h in
    let same : d - 0x30 ≡ 10 * 0 + (d - 0x30) = omega arith in
    rw q.0 (run_is (d - 0x30) ds r q.1 k ∙ ap (λ n. Integer (pos (capped_at_i64 (value_after n ds)))
    ∷ csi_params r) same)

held_small : (n : ℕ) → capped_at_i64 n < 2 ^ 64
held_small n = omega arith

held_again : (n : ℕ) → capped_at_i64 (capped_at_i64 n) ≡ capped_at_i64 n
held_again n = omega arith

pub number_is : (n : ℕ) (r : List ℕ) → no_digit r ≡ true
    → csi_params (decimal (capped_at_i64 n) ++ r) ≡ Integer (pos (capped_at_i64 n)) ∷ csi_params r
number_is n r k =
    let small = held_small n in
    digits_are (decimal (capped_at_i64 n)) r (decimal_nonempty (capped_at_i64 n) small)
    (digits_decimal own (capped_at_i64 n) small) k
    ∙ ap (λ m. Integer (pos (capped_at_i64 m)) ∷ csi_params r)
    (digits_value-decimal own (capped_at_i64 n) small)
    ∙ ap (λ m. Integer (pos m) ∷ csi_params r) (held_again n)

body_is_ascii : (b : ℕ) → is_body_byte b ≡ true → b < 128
body_is_ascii b h = grind (arith, nat_tests)

byte_text : (b : ℕ) (r : List ℕ) → is_body_byte b ≡ true → encode_utf8 b ++ r ≡ b ∷ r
byte_text b r h = ap (λ t. t ++ r) (encode_ascii b (body_is_ascii b h))

-- a byte that is no digit, and the bytes after it
other_is : (b : ℕ) (es : List CsiParam) → is_body_byte b ≡ true → is_digit b ≡ false
    → csi_params (csi_params_text es) ≡ es
    → csi_params (csi_params_text (P b ∷ es)) ≡ P b ∷ es
other_is b es i d h =
    ap csi_params (byte_text b (csi_params_text es) i) ∙ rw d (ap (λ y. P b ∷ y) h)

none_by : (b : ℕ) (x : List ℕ) (t : Bool) → is_digit b ≡ t → is_body_byte b ≡ true
    → csi_params (csi_params_text (csi_params_after (Some (b - 0x30)) x))
    ≡ csi_params_after (Some (b - 0x30)) x
    → csi_params (csi_params_text (csi_params x)) ≡ csi_params x
    → csi_params (csi_params_text (if t then csi_params_after (Some (b - 0x30)) x else P b
    ∷ csi_params_after None x))
    ≡ (if t then csi_params_after (Some (b - 0x30)) x else P b ∷ csi_params_after None x)
none_by b x true d i h k = h
none_by b x false d i h k = other_is b (csi_params x) i d k

no_digit_in_prefix : (b : ℕ) (es : List CsiParam) → is_body_byte b ≡ true → is_digit b ≡ false
    → no_digit (csi_params_text (P b ∷ es)) ≡ true
no_digit_in_prefix b es i d = ap no_digit (byte_text b (csi_params_text es) i) ∙ rw d refl

some_by : (n b : ℕ) (x : List ℕ) (t : Bool) → is_digit b ≡ t → is_body_byte b ≡ true
    → csi_params (csi_params_text (csi_params_after (Some (10 * n + (b - 0x30))) x))
    ≡ csi_params_after (Some (10 * n + (b - 0x30))) x
    → csi_params (csi_params_text (csi_params x)) ≡ csi_params x
    → csi_params
    (csi_params_text (if t then csi_params_after (Some (10 * n + (b - 0x30))) x else Integer
    (pos (capped_at_i64 n)) ∷ P b ∷ csi_params_after None x))
    ≡ (if t then csi_params_after (Some (10 * n + (b - 0x30))) x
    else Integer (pos (capped_at_i64 n)) ∷ P b
    ∷ csi_params_after None x)
some_by n b x true d i h k = h
some_by n b x false d i h k =
    number_is n (csi_params_text (P b ∷ csi_params x)) (no_digit_in_prefix b (csi_params x) i d)
    ∙ ap (λ y. Integer (pos (capped_at_i64 n)) ∷ y) (other_is b (csi_params x) i d k)

back : (o : Option ℕ) (x : List ℕ) → list_all is_body_byte x ≡ true
    → csi_params (csi_params_text (csi_params_after o x)) ≡ csi_params_after o x
back None [] h = refl
back (Some n) [] h = number_is n [] refl
back None (b ∷ x) h = let q = and_parts (is_body_byte b) (list_all is_body_byte x) h in
    none_by b x (is_digit b) refl q.0 (back (Some (b - 0x30)) x q.1) (back None x q.1)
back (Some n) (b ∷ x) h = let q = and_parts (is_body_byte b) (list_all is_body_byte x) h in
    some_by n b x (is_digit b) refl q.0 (back (Some (10 * n + (b - 0x30))) x q.1) (back None x q.1)

pub csi_params_back : (x : List ℕ) → list_all is_body_byte x ≡ true
    → csi_params (csi_params_text (csi_params x)) ≡ csi_params x
csi_params_back x h = back None x h

-- the bytes of the text
module _ (p : ℕ → Bool) (each : (b : ℕ) → is_digit b ≡ true → p b ≡ true) where
  digits_all : (ds : List ℕ) → are_digits ds ≡ true → list_all p ds ≡ true
  digits_all [] h = refl
  digits_all (d ∷ ds) h = let q = and_parts (is_digit d) (are_digits ds) h in
      rw (each d q.0, digits_all ds q.1) refl

  pub number_all : (n : ℕ) → n < 2 ^ 64 → list_all p (decimal n) ≡ true
  number_all n small = digits_all (decimal n) (digits_decimal own n small)

number_bytes : (n : ℕ) (r : List ℕ) → list_all is_body_byte r ≡ true
    → list_all is_body_byte (decimal (capped_at_i64 n) ++ r) ≡ true
number_bytes n r h =
    rw (
      list_all-append is_body_byte (decimal (capped_at_i64 n)) r,
      number_all is_body_byte digit_in_body (capped_at_i64 n) (held_small n),
      h,
    ) refl

other_bytes : (b : ℕ) (es : List CsiParam) → is_body_byte b ≡ true
    → list_all is_body_byte (csi_params_text es) ≡ true
    → list_all is_body_byte (csi_params_text (P b ∷ es)) ≡ true
other_bytes b es i h =
    ap (list_all is_body_byte) (byte_text b (csi_params_text es) i) ∙ rw (i, h) refl

bytes_none_by : (b : ℕ) (x : List ℕ) (t : Bool) → is_body_byte b ≡ true
    → list_all is_body_byte (csi_params_text (csi_params_after (Some (b - 0x30)) x)) ≡ true
    → list_all is_body_byte (csi_params_text (csi_params x)) ≡ true
    → list_all is_body_byte
    (csi_params_text (if t then csi_params_after (Some (b - 0x30)) x else P b
    ∷ csi_params_after None x)) ≡ true
bytes_none_by b x true i h k = h
bytes_none_by b x false i h k = other_bytes b (csi_params x) i k

bytes_some_by : (n b : ℕ) (x : List ℕ) (t : Bool) → is_body_byte b ≡ true
    → list_all is_body_byte (csi_params_text (csi_params_after (Some (10 * n + (b - 0x30))) x))
    ≡ true
    → list_all is_body_byte (csi_params_text (csi_params x)) ≡ true
    → list_all is_body_byte
    (csi_params_text (if t then csi_params_after (Some (10 * n + (b - 0x30))) x else Integer
    (pos (capped_at_i64 n)) ∷ P b ∷ csi_params_after None x)) ≡ true
bytes_some_by n b x true i h k = h
bytes_some_by n b x false i h k =
    number_bytes n (csi_params_text (P b ∷ csi_params x)) (other_bytes b (csi_params x) i k)

text_bytes_after : (o : Option ℕ) (x : List ℕ) → list_all is_body_byte x ≡ true
    → list_all is_body_byte (csi_params_text (csi_params_after o x)) ≡ true
text_bytes_after None [] h = refl
text_bytes_after (Some n) [] h = number_bytes n [] refl
text_bytes_after None (b ∷ x) h = let q = and_parts (is_body_byte b) (list_all is_body_byte x) h in
    bytes_none_by b x (is_digit b) q.0 (text_bytes_after (Some (b - 0x30)) x q.1)
    (text_bytes_after None x q.1)
text_bytes_after (Some n) (b ∷ x) h = let q =
    and_parts (is_body_byte b) (list_all is_body_byte x) h in
    bytes_some_by n b x (is_digit b) q.0 (text_bytes_after (Some (10 * n + (b - 0x30))) x q.1)
    (text_bytes_after None x q.1)

pub text_bytes : (x : List ℕ) → list_all is_body_byte x ≡ true
    → list_all is_body_byte (csi_params_text (csi_params x)) ≡ true
text_bytes x h = text_bytes_after None x h
