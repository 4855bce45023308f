-- Runs that are decimal numbers with `;` between them.
use Rattle.std.proofs.Common.{◌≡◌, ℕ, ◌+◌, ◌-◌, ◌*◌, ◌^◌, ◌<◌, ◌==◌, Bool, true, false, ◌&&◌, List, [], ◌∷◌, ◌++◌, length}
use Rattle.std.proofs.lemmas.Bool.{and_parts}
use Rattle.std.proofs.Common.{Option, Some, None, refl, ap, ◌∙◌, append-nil, arith, rules}
use Rattle.std.specs.List.{list_all}
use Rattle.std.specs.Fmt.{decimal}
use Rattle.std.proofs.lemmas.Bool.Decides.{nat_tests}
use Rattle.std.proofs.lemmas.Fmt.{digits_decimal, digits_value-decimal, decimal_nonempty}
use Rattle.std.proofs.lemmas.List.Folds.{list_all-append}
use Rattle.std.proofs.lemmas.Str.Parse.{IsNumeralModel, numerals_by_fold}
use Rattle.esc_values.specs.Clear.{semicolon_list}
use Rattle.esc_values.specs.Params.{is_digit, value_after}
use Rattle.esc_sixel.specs.Runs.{numbers_after, separators}
use Rattle.esc_sixel.specs.Writable.{is_parameter_byte, is_data_byte}

abbrev pub are_digits : List ℕ → Bool
are_digits [] = true
are_digits (b ∷ bs) = is_digit b && are_digits bs

own : IsNumeralModel (λ ds. are_digits ds ≡ true) (value_after 0)
own = numerals_by_fold _ (search rules) value_after (search rules)

-- digits that write a number
pub record IsSlice (p : List ℕ) (n : ℕ) : Type 0 where
  pub digits : are_digits p ≡ true
  pub some : 0 < length p
  pub value : value_after 0 p ≡ n

pub decimal_slice : (n : ℕ) → n < 2 ^ 64 → IsSlice (decimal n) n
decimal_slice n small = record {
  digits = digits_decimal own n small;
  some = decimal_nonempty n small;
  value = digits_value-decimal own n small;
}

-- slices and the numbers that they write
abbrev pub AreSlices : List (List ℕ) → List ℕ → Type 0
AreSlices [] [] = Unit {0}
AreSlices (p ∷ ps) (n ∷ ns) = IsSlice p n × AreSlices ps ns
AreSlices [] (n ∷ ns) = ⊥
AreSlices (p ∷ ps) [] = ⊥

pub not_separator : (b : ℕ) → is_digit b ≡ true → (b == 0x3b) ≡ false
not_separator b d = grind (arith, nat_tests)

-- the numbers of a run
goes_on : (m : ℕ) (ds rest : List ℕ) → are_digits ds ≡ true
    → numbers_after (Some m) (ds ++ 0x3b ∷ rest) ≡ Some (value_after m ds)
    ∷ numbers_after None rest
goes_on m [] rest h = refl
goes_on m (d ∷ ds) rest h =
    let q = and_parts (is_digit d) (are_digits ds) h in
    rw (not_separator d q.0) (goes_on (10 * m + (d - 0x30)) ds rest q.1)

ends_run : (m : ℕ) (ds : List ℕ) → are_digits ds ≡ true
    → numbers_after (Some m) ds ≡ Some (value_after m ds) ∷ []
ends_run m [] h = refl
ends_run m (d ∷ ds) h =
    let q = and_parts (is_digit d) (are_digits ds) h in
    rw (not_separator d q.0) (ends_run (10 * m + (d - 0x30)) ds q.1)

slice_then : (p : List ℕ) (n : ℕ) (rest : List ℕ) → IsSlice p n
    → numbers_after None (p ++ 0x3b ∷ rest) ≡ Some n ∷ numbers_after None rest
slice_then [] n rest h = absurd (let some = h.some in omega (arith, some))
slice_then (d ∷ ds) n rest h =
    let q = and_parts (is_digit d) (are_digits ds) h.digits in
    rw (not_separator d q.0) (goes_on (10 * 0 + (d - 0x30)) ds rest q.1
    ∙ ap (λ k. Some k ∷ numbers_after None rest) h.value)

pub slice_last : (p : List ℕ) (n : ℕ) → IsSlice p n → numbers_after None p ≡ Some n ∷ []
slice_last [] n h = absurd (let some = h.some in omega (arith, some))
slice_last (d ∷ ds) n h =
    let q = and_parts (is_digit d) (are_digits ds) h.digits in
    rw (not_separator d q.0) (ends_run (10 * 0 + (d - 0x30)) ds q.1 ∙ ap (λ k. Some k ∷ []) h.value)

abbrev pub all_some : List ℕ → List (Option ℕ)
all_some [] = []
all_some (n ∷ ns) = Some n ∷ all_some ns

pub run_numbers : (p : List ℕ) (ps : List (List ℕ)) (n : ℕ) (ns : List ℕ)
    → AreSlices (p ∷ ps) (n ∷ ns)
    → numbers_after None (semicolon_list (p ∷ ps)) ≡ Some n ∷ all_some ns
run_numbers p [] n [] h = ap (numbers_after None) (append-nil p) ∙ slice_last p n h.0
run_numbers p [] n (m ∷ ns) h = absurd h.1
run_numbers p (q ∷ ps) n [] h = absurd h.1
run_numbers p (q ∷ ps) n (m ∷ ns) h =
    slice_then p n (semicolon_list (q ∷ ps)) h.0 ∙ ap (λ r. Some n ∷ r) (run_numbers q ps m ns h.1)

-- how many separators it has
passes_digits : (ds rest : List ℕ) → are_digits ds ≡ true
    → separators (ds ++ rest) ≡ separators rest
passes_digits [] rest h = refl
passes_digits (d ∷ ds) rest h =
    let q = and_parts (is_digit d) (are_digits ds) h in
    rw (not_separator d q.0) (passes_digits ds rest q.1)

pub run_separators : (p : List ℕ) (ps : List (List ℕ)) (n : ℕ) (ns : List ℕ)
    → AreSlices (p ∷ ps) (n ∷ ns)
    → separators (semicolon_list (p ∷ ps)) ≡ length ps
run_separators p [] n [] h = passes_digits p [] h.0.digits
run_separators p [] n (m ∷ ns) h = absurd h.1
run_separators p (q ∷ ps) n [] h = absurd h.1
run_separators p (q ∷ ps) n (m ∷ ns) h =
    let more : separators (semicolon_list (q ∷ ps)) ≡ length ps = run_separators q ps m ns h.1 in
    let here : separators (p ++ 0x3b ∷ semicolon_list (q ∷ ps))
    ≡ separators (0x3b ∷ semicolon_list (q ∷ ps)) =
    passes_digits p (0x3b ∷ semicolon_list (q ∷ ps)) h.0.digits in
    here ∙ (omega (arith, more))

-- its bytes
parameter_byte : (b : ℕ) → is_digit b ≡ true → is_parameter_byte b ≡ true
parameter_byte b d = grind (arith, nat_tests)

data_byte : (b : ℕ) → is_parameter_byte b ≡ true → is_data_byte b ≡ true
data_byte b d = grind (arith, nat_tests)

pub digit_bytes : (ds : List ℕ) → are_digits ds ≡ true → list_all is_parameter_byte ds ≡ true
digit_bytes [] h = refl
digit_bytes (d ∷ ds) h =
    let q = and_parts (is_digit d) (are_digits ds) h in
    rw (parameter_byte d q.0, digit_bytes ds q.1) refl

pub run_bytes : (p : List ℕ) (ps : List (List ℕ)) (n : ℕ) (ns : List ℕ)
    → AreSlices (p ∷ ps) (n ∷ ns)
    → list_all is_parameter_byte (semicolon_list (p ∷ ps)) ≡ true
run_bytes p [] n [] h = ap (list_all is_parameter_byte) (append-nil p) ∙ digit_bytes p h.0.digits
run_bytes p [] n (m ∷ ns) h = absurd h.1
run_bytes p (q ∷ ps) n [] h = absurd h.1
run_bytes p (q ∷ ps) n (m ∷ ns) h =
    let more : list_all is_parameter_byte (semicolon_list (q ∷ ps))
    ≡ true = run_bytes q ps m ns h.1 in
    list_all-append is_parameter_byte p (0x3b ∷ semicolon_list (q ∷ ps))
    ∙ rw (digit_bytes p h.0.digits) more

pub data_bytes : (r : List ℕ) → list_all is_parameter_byte r ≡ true → list_all is_data_byte r ≡ true
data_bytes [] h = refl
data_bytes (b ∷ r) h =
    let q = and_parts (is_parameter_byte b) (list_all is_parameter_byte r) h in
    rw (data_byte b q.0, data_bytes r q.1) refl
