-- The parameters of a header that is written.
use Rattle.std.proofs.Common.{◌≡◌, ℕ, ℤ, pos, negsuc, ◌^◌, ◌<◌, ◌==◌, Bool, true, false, List, [], ◌∷◌, map, codes}
use Rattle.std.proofs.Common.{Option, Some, None, refl, sym, ap, ◌∙◌, arith, inl, inr}
use Rattle.std.specs.List.{slice_split, slice_get, list_all, AllByRecursion as ByRecursion}
use Rattle.std.specs.Fmt.{decimal}
use Rattle.std.proofs.lemmas.Bool.{eqb-true, cases_Bool, and_parts}
use Rattle.std.proofs.lemmas.List.Elements.{All-from_recursion}
use Rattle.std.proofs.lemmas.List.Splits.{slice_split_none}
use Rattle.esc_values.specs.Params.{capped_at_i64, value_after, is_digit}
use Rattle.esc_sixel.proofs.Runs.RunsAreNumbers.{are_digits, decimal_slice, digit_bytes, not_separator}
use Rattle.esc_sixel.specs.Meaning.{pan_number, is_one}
use Rattle.esc_sixel.specs.Texts.{flag_text, background_text, short_form}
use Rattle.esc_sixel.specs.Writable.{IsGrid, is_parameter_byte, params_of}

abbrev semi : ℕ → Bool
semi c = c == 0x3b

-- a first parameter that means a pan
pub record Means (pan pad : ℤ) (m : List ℕ) : Type 0 where
  pub digit : ℕ
  pub number : ℕ
  pub is : m ≡ digit ∷ []
  pub byte : is_parameter_byte digit ≡ true
  pub other : semi digit ≡ false
  pub value : capped_at_i64 (value_after 0 (digit ∷ [])) ≡ number
  pub pan_is : pos (pan_number number) ≡ pan
  pub pad_is : pos 1 ≡ pad

-- the first parameter that is written, if one is
abbrev pub MeansIn : ℤ → ℤ → Option (List ℕ) → Type 0
MeansIn pan pad None = Unit {0}
MeansIn pan pad (Some m) = Means pan pad m

means_by : (digit number n : ℕ) → is_parameter_byte digit ≡ true → semi digit ≡ false
    → capped_at_i64 (value_after 0 (digit ∷ [])) ≡ number → pan_number number ≡ n
    → Means (pos n) (pos 1) (digit ∷ [])
means_by digit number n byte other value is = record {
  digit = digit;
  number = number;
  is = refl;
  byte = byte;
  other = other;
  value = value;
  pan_is = ap pos is;
  pad_is = refl;
}

means_pan : (n : ℕ) → MeansIn (pos n) (pos 1) (short_form (pos n) (pos 1))
means_pan n = elim (cases_Bool (n == 2)) [
  | inl e ↦ rw e (means_by 0x30 0 n refl refl refl (sym (eqb-true n 2 e)))
  | inr a ↦ elim (cases_Bool (n == 5)) [
    | inl e ↦ rw (a, e) (means_by 0x32 2 n refl refl refl (sym (eqb-true n 5 e)))
    | inr b ↦ elim (cases_Bool (n == 3)) [
      | inl e ↦ rw (a, b, e) (means_by 0x33 3 n refl refl refl (sym (eqb-true n 3 e)))
      | inr d ↦ elim (cases_Bool (n == 1)) [
        | inl e ↦ rw (a, b, d, e) (means_by 0x37 7 n refl refl refl (sym (eqb-true n 1 e)))
        | inr e ↦ rw (a, b, d, e) tt
      ]
    ]
  ]
]

pub means : (pan pad : ℤ) → MeansIn pan pad (short_form pan pad)
means pan (negsuc k) = tt
means (pos n) (pos k) = elim (cases_Bool (k == 1)) [
  | inl e ↦ let same : k ≡ 1 = eqb-true k 1 e in rw same (means_pan n)
  | inr e ↦ rw e tt
]
means (negsuc n) (pos k) = elim (cases_Bool (k == 1)) [
  | inl e ↦ rw e tt
  | inr e ↦ rw e tt
]

-- the slices of the parameters
lacks : (ds : List ℕ) → are_digits ds ≡ true → ByRecursion (λ b. semi b ≡ false) ds
lacks [] h = tt
lacks (d ∷ ds) h = let q = and_parts (is_digit d) (are_digits ds) h in
    (not_separator d q.0, lacks ds q.1)

digits_alone : (ds : List ℕ) → are_digits ds ≡ true → slice_split semi ds ≡ ds ∷ []
digits_alone ds h = slice_split_none semi ds (All-from_recursion _ ds (lacks ds h))

abbrev grid_slices : Option ℤ → List (List ℕ)
grid_slices None = []
grid_slices (Some (pos n)) = decimal n ∷ []
grid_slices (Some (negsuc n)) = []

background_split : (t : Bool) (g : Option ℤ) → IsGrid g
    → slice_split semi (background_text t g) ≡ flag_text t ∷ grid_slices g
background_split true None h = refl
background_split false None h = refl
background_split true (Some (pos n)) h =
    let slice = decimal_slice n (omega (arith, h)) in
    ap (λ r. codes "1" ∷ r) (digits_alone (decimal n) slice.digits)
background_split false (Some (pos n)) h =
    let slice = decimal_slice n (omega (arith, h)) in
    ap (λ r. codes "0" ∷ r) (digits_alone (decimal n) slice.digits)
background_split true (Some (negsuc n)) h = absurd h
background_split false (Some (negsuc n)) h = absurd h

-- the numbers
abbrev pub flag_number : Bool → ℤ
flag_number true = pos 1
flag_number false = pos 0

abbrev pub grid_list : Option ℤ → List ℤ
grid_list None = []
grid_list (Some z) = z ∷ []

abbrev number_of_slice : List ℕ → ℤ
number_of_slice p = pos (capped_at_i64 (value_after 0 p))

flag_is : (t : Bool) → number_of_slice (flag_text t) ≡ flag_number t
flag_is true = refl
flag_is false = refl

held_small : (n : ℕ) → n < 2 ^ 63 → capped_at_i64 n ≡ n
held_small n small = omega arith

grid_is : (g : Option ℤ) → IsGrid g → map number_of_slice (grid_slices g) ≡ grid_list g
grid_is None h = refl
grid_is (Some (pos n)) h =
    let slice = decimal_slice n (omega (arith, h)) in
    ap (λ k. pos (capped_at_i64 k) ∷ []) slice.value ∙ ap (λ k. pos k ∷ []) (held_small n h)
grid_is (Some (negsuc n)) h = absurd h

background_numbers : (t : Bool) (g : Option ℤ) → IsGrid g
    → map number_of_slice (slice_split semi (background_text t g)) ≡ flag_number t ∷ grid_list g
background_numbers t g h =
    ap (map number_of_slice) (background_split t g h)
    ∙ ap (λ k. k ∷ map number_of_slice (grid_slices g)) (flag_is t)
    ∙ ap (λ r. flag_number t ∷ r) (grid_is g h)

-- the parameters without a first one, and with one
pub params_plain : (t : Bool) (g : Option ℤ) → IsGrid g
    → params_of (0x3b ∷ background_text t g) ≡ pos 0 ∷ flag_number t ∷ grid_list g
params_plain t g h = ap (λ r. pos 0 ∷ r) (background_numbers t g h)

pub params_first : (d v : ℕ) (t : Bool) (g : Option ℤ) → semi d ≡ false
    → capped_at_i64 (value_after 0 (d ∷ [])) ≡ v → IsGrid g
    → params_of (d ∷ 0x3b ∷ background_text t g) ≡ pos v ∷ flag_number t ∷ grid_list g
params_first d v t g other value h =
    rw other (ap (λ k. pos k ∷ map number_of_slice (slice_split semi (background_text t g))) value
    ∙ ap (λ r. pos v ∷ r) (background_numbers t g h))

-- their meaning
pub flag_back : (v : ℕ) (t : Bool) (g : Option ℤ)
    → is_one (slice_get (pos v ∷ flag_number t ∷ grid_list g) 1) ≡ t
flag_back v true g = refl
flag_back v false g = refl

pub grid_back : (v : ℕ) (t : Bool) (g : Option ℤ)
    → slice_get (pos v ∷ flag_number t ∷ grid_list g) 2 ≡ g
grid_back v t None = refl
grid_back v t (Some z) = refl

-- their bytes
pub background_bytes : (t : Bool) (g : Option ℤ) → IsGrid g
    → list_all is_parameter_byte (background_text t g) ≡ true
background_bytes true None h = refl
background_bytes false None h = refl
background_bytes true (Some (pos n)) h = let slice = decimal_slice n (omega (arith, h)) in
    digit_bytes (decimal n) slice.digits
background_bytes false (Some (pos n)) h = let slice = decimal_slice n (omega (arith, h)) in
    digit_bytes (decimal n) slice.digits
background_bytes true (Some (negsuc n)) h = absurd h
background_bytes false (Some (negsuc n)) h = absurd h
