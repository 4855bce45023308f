-- Runs of digits in a body.
use Rattle.std.proofs.Common.{ℕ, ◌≡◌, ◌+◌, ◌-◌, ◌*◌, ◌<◌, ◌≤◌, true, false, List, [], ◌∷◌, ◌++◌, length, take, get_or, length-take, Option, Some, None, refl}
use Rattle.std.proofs.Common.{ap, sym, ◌∙◌, append_assoc, arith}
use Rattle.std.specs.List.{list_all}
use Rattle.std.proofs.lemmas.List.{append-nil, take_more}
use Rattle.std.proofs.lemmas.List.Folds.{list_all_more}
use Rattle.std.proofs.lemmas.Bool.{and_parts}
use Rattle.std.proofs.lemmas.Bool.Decides.{nat_tests}
use Rattle.esc_frame.specs.declared.unfinished.body.Form.{Form}
use Rattle.esc_frame.specs.declared.unfinished.body.Form.TheVariants as form
use Rattle.esc_frame.specs.Bodies.{is_digit, is_private_prefix, is_csi_parameter, is_intermediate_byte, capped_at_i64, value_after}
use Rattle.esc_frame.specs.Machine.Keeps.{number_at, number_of_run, next_number_of, closed_of, closed_by, form_from, next_form}
use Rattle.esc_frame.specs.Scans.{is_body_byte}
use Rattle.esc_frame.proofs.Steps.ParamsGrow.{held_next}
use Rattle.esc_frame.proofs.Steps.DigitsHaveValues.{value_push}

-- ---- the number

digits_number : (n : ℕ) (ys : List ℕ) → list_all is_digit ys ≡ true
    → number_of_run (Some n) ys ≡ Some (value_after n ys)
digits_number n [] h = refl
digits_number n (b ∷ ys) h = let k = and_parts (is_digit b) (list_all is_digit ys) h in
    rw k.0 (digits_number (10 * n + (b - 0x30)) ys k.1)

first_digit : (b : ℕ) → 10 * 0 + (b - 0x30) ≡ b - 0x30
first_digit b = omega arith

run_number : (o : Option ℕ) (ys : List ℕ) → 0 < length ys → list_all is_digit ys ≡ true
    → number_of_run o ys ≡ Some (value_after (number_at o) ys)
run_number o [] l h = absurd (omega arith)
run_number None (b ∷ ys) l h =
    let k = and_parts (is_digit b) (list_all is_digit ys) h in
    rw k.0 (digits_number (b - 0x30) ys k.1
    ∙ ap (λ n. Some (value_after n ys)) (sym (first_digit b)))
run_number (Some n) (b ∷ ys) l h = digits_number n (b ∷ ys) h

number_append : (o : Option ℕ) (x ys : List ℕ)
    → number_of_run o (x ++ ys) ≡ number_of_run (number_of_run o x) ys
number_append o [] ys = refl
number_append o (b ∷ x) ys = number_append (next_number_of o b) x ys

digits_closed : (o : Option ℕ) (ys : List ℕ) → list_all is_digit ys ≡ true → closed_of o ys ≡ []
digits_closed o [] h = refl
digits_closed o (b ∷ ys) h = let k = and_parts (is_digit b) (list_all is_digit ys) h in
    rw k.0 (digits_closed (next_number_of o b) ys k.1)

closed_append : (o : Option ℕ) (x ys : List ℕ)
    → closed_of o (x ++ ys) ≡ closed_of o x ++ closed_of (number_of_run o x) ys
closed_append o [] ys = refl
closed_append o (b ∷ x) ys =
    ap (λ y. closed_by o b ++ y) (closed_append (next_number_of o b) x ys)
    ∙ sym (append_assoc (closed_by o b) (closed_of (next_number_of o b) x)
    (closed_of (number_of_run (next_number_of o b) x) ys))

-- one digit more
pub number_next : (start : ℕ) (x : List ℕ) (i m : ℕ) → i < length x
    → m ≡ capped_at_i64 (value_after start (take i x))
    → capped_at_i64 (10 * m + (get_or x i 0 - 0x30))
    ≡ capped_at_i64 (value_after start (take (i + 1) x))
number_next start x i m h e =
    ap (λ k. capped_at_i64 (10 * k + (get_or x i 0 - 0x30))) e
    ∙ held_next (value_after start (take i x)) (get_or x i 0 - 0x30)
    ∙ ap capped_at_i64 (sym (value_push start (take i x) (get_or x i 0)))
    ∙ ap (λ y. capped_at_i64 (value_after start y)) (sym (take_more x i 0 h))

module _ (x ys : List ℕ) (some : 0 < length ys) (p : list_all is_digit ys ≡ true) where
  pub digits_csi_params : closed_of None (x ++ ys) ≡ closed_of None x
  digits_csi_params = closed_append None x ys
      ∙ ap (λ y. closed_of None x ++ y) (digits_closed (number_of_run None x) ys p)
      ∙ append-nil (closed_of None x)

  pub digits_value : number_of_run None (x ++ ys)
      ≡ Some (value_after (number_at (number_of_run None x)) ys)
  digits_value = number_append None x ys ∙ run_number (number_of_run None x) ys some p

-- ---- the form

zero_keeps : (f : Form) → next_form (next_form f 0x30) 0x30 ≡ next_form f 0x30
zero_keeps form.Empty = refl
zero_keeps _ = refl

no_private_prefix : (b : ℕ) → is_digit b ≡ true → is_private_prefix b ≡ false
no_private_prefix b h = grind (arith, nat_tests)

a_parameter : (b : ℕ) → is_digit b ≡ true → is_csi_parameter b ≡ true
a_parameter b h = grind (arith, nat_tests)

no_intermediate : (b : ℕ) → is_digit b ≡ true → is_intermediate_byte b ≡ false
no_intermediate b h = grind (arith, nat_tests)

digit_form : (f : Form) (b : ℕ) → is_digit b ≡ true → next_form f b ≡ next_form f 0x30
digit_form form.Empty b h = rw (no_private_prefix b h, a_parameter b h) refl
digit_form form.Parameters b h = rw (a_parameter b h) refl
digit_form form.Intermediates b h = rw (no_intermediate b h) refl
digit_form form.Malformed b h = refl

digits_form : (f : Form) (ys : List ℕ) → 0 < length ys → list_all is_digit ys ≡ true
    → form_from f ys ≡ next_form f 0x30
digits_form f [] l h = absurd (omega arith)
digits_form f (b ∷ []) l h = let k = and_parts (is_digit b) true h in digit_form f b k.0
digits_form f (b ∷ c ∷ ys) l h =
    let k = and_parts (is_digit b) (list_all is_digit (c ∷ ys)) h in
    ap (λ g. form_from g (c ∷ ys)) (digit_form f b k.0) ∙ digits_form (next_form f 0x30) (c ∷ ys)
    (omega arith) k.1 ∙ zero_keeps f

form_append : (f : Form) (x ys : List ℕ) → form_from f (x ++ ys) ≡ form_from (form_from f x) ys
form_append f [] ys = refl
form_append f (b ∷ x) ys = form_append (next_form f b) x ys

pub digits_forms : (x ys : List ℕ) → 0 < length ys → list_all is_digit ys ≡ true
    → form_from form.Empty (x ++ ys) ≡ next_form (form_from form.Empty x) 0x30
digits_forms x ys l h = form_append form.Empty x ys ∙ digits_form (form_from form.Empty x) ys l h

-- ---- the bytes ahead

pub digits_first : (rest : List ℕ) → 0 < length rest → 0x30 ≤ get_or rest 0 0
    → get_or rest 0 0 ≤ 0x39 → list_all is_digit (take 1 rest) ≡ true
digits_first [] l p q = absurd (omega arith)
digits_first (b ∷ rest) l p q = let d : is_digit b ≡ true = grind (arith, nat_tests) in rw d refl

pub digits_more : (rest : List ℕ) (i : ℕ) → i < length rest → 0x30 ≤ get_or rest i 0
    → get_or rest i 0 ≤ 0x39 → list_all is_digit (take i rest) ≡ true
    → list_all is_digit (take (i + 1) rest) ≡ true
digits_more rest i l p q h = let d : is_digit (get_or rest i 0) ≡ true = grind (arith, nat_tests) in
    list_all_more is_digit rest i 0 l ∙ rw (h, d) refl

body_digit : (b : ℕ) → is_digit b ≡ true → is_body_byte b ≡ true
body_digit b h = grind (arith, nat_tests)

pub digits_in_body : (ys : List ℕ) → list_all is_digit ys ≡ true → list_all is_body_byte ys ≡ true
digits_in_body [] h = refl
digits_in_body (b ∷ ys) h = let k = and_parts (is_digit b) (list_all is_digit ys) h in
    rw (body_digit b k.0, digits_in_body ys k.1) refl

pub taken_some : (rest : List ℕ) (n : ℕ) → 0 < n → n ≤ length rest → 0 < length (take n rest)
taken_some rest n p l = omega (arith, length-take n rest)
