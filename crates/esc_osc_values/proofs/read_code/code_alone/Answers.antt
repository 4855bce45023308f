use Rattle.std.proofs.Common.{◌≡◌, ℕ, ◌<◌, ◌≤◌, List, ◌≢◌, ◌⊎◌, get_or, length, sym, ◌∙◌, arith, inl, inr, nat_eq, false}
use Rattle.std.proofs.lemmas.Bool.{eqb-true, eqb-false}
use Rattle.esc_osc_values.specs.declared.code.OperatingSystemCommandCode.TheVariants as code
use Rattle.esc_osc_values.proofs.Codes.{code_of_from, code_of_nil, code_name_digit, code_name_letter, letter_none, code_of-code_text}
use Rattle.esc_osc_values.proofs.read_code.code_alone.Goals as goal

pub returns-then-is_empty : goal.returns-then-is_empty
returns-then-is_empty c =
    sym (code_of_nil _ (eqb-true _ 0 (sym c.is_empty.ensures ∙ c.if-is_empty.true)))

pub returns-then-letter-le57 : goal.returns-then-letter-le57
returns-then-letter-le57 c =
    let low : 48 ≤ get_or c.args.first.now 0 0 =
    rw c.as_bytes.ensures.value at c.if-letter-ge48.true in
    let high : get_or c.args.first.now 0 0 ≤ 57 =
    rw c.as_bytes.ensures.value at c.if-letter-le57.true in
    rw (code_name_digit _ low high) (code_of_from _ _ c.from_code.ensures)

-- there is a first byte
some_byte : (t : List ℕ) → false ≡ nat_eq (length t) 0 → 0 < length t
some_byte t h = let ne : length t ≢ 0 = eqb-false _ _ (sym h) in omega arith

-- the byte is no digit
no_digit : (b : ℕ) → ((48 ≤ b) × (57 < b)) ⊎ (b < 48) → (b < 48) ⊎ (57 < b)
no_digit b (inl h) = inr h.1
no_digit b (inr h) = inl h

pub returns-then-letter-eq108 : goal.returns-then-letter-eq108
returns-then-letter-eq108 c =
    let is : get_or c.args.first.now 0 0 ≡ 108 =
    rw c.as_bytes.ensures.value at c.if-letter-eq108.true in
    let some : 0 < length c.args.first.now = some_byte _ c.if-is_empty.ensures in
    sym (rw (
      code_name_letter c.args.first.now some (inr (omega arith)),
      is,
    ) (code_of-code_text code.SetWindowTitleSun))

pub returns-then-letter-eq76 : goal.returns-then-letter-eq76
returns-then-letter-eq76 c =
    let is : get_or c.args.first.now 0 0 ≡ 76 =
    rw c.as_bytes.ensures.value at c.if-letter-eq76.true in
    let some : 0 < length c.args.first.now = some_byte _ c.if-is_empty.ensures in
    sym (rw (
      code_name_letter c.args.first.now some (inr (omega arith)),
      is,
    ) (code_of-code_text code.SetIconNameSun))

pub returns : goal.returns
returns c =
    let some : 0 < length c.args.first.now = some_byte _ c.if-is_empty.ensures in
    let other = no_digit _ (rw c.as_bytes.ensures.value at c.else-letter-ge48.either) in
    let l : get_or c.args.first.now 0 0 ≢ 108 =
    rw c.as_bytes.ensures.value at c.if-letter-eq108.false in
    let u : get_or c.args.first.now 0 0 ≢ 76 =
    rw c.as_bytes.ensures.value at c.if-letter-eq76.false in
    sym (rw (code_name_letter c.args.first.now some other) (letter_none _ other l u))
