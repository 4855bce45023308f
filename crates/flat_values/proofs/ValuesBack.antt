-- Values are read back from rows, by a reading that gives values within bounds as they are.
use Rattle.std.proofs.Common.{ℕ, ℤ, pos, negsuc, ◌≡◌, ◌<◌, ◌^◌, Bool, true, false, if◌then◌else◌, List, [], ◌∷◌, ◌++◌, Option, Some, None, refl, map, ap}
use Rattle.std.proofs.lemmas.Bool.{lt-ltb}
use Rattle.std.proofs.lemmas.Str.{is_utf8-from_IsUtf8}
use Rattle.std.specs.List.{flat_map}
use Rattle.std.specs.Option.{option_map}
use Rattle.std.specs.Str.{IsUtf8}
use Rattle.esc_values.specs.Scalars.{IsSigned}
use Rattle.flat_values.specs.Commands.{index_fields, part_fields}
use Rattle.flat_values.specs.Fields.{flag_number, named_values, text_of}
use Rattle.flat_values.specs.Fields.Value.{Number}
use Rattle.flat_values.specs.Found.{Reading, below, byte_of, flag_of, held_form, parameters, signed_below, string_of, utf8_or_none}
use Rattle.flat_values.specs.Held.{AreTexts, AreWithin, Bounds, IsPart, Part, parameter_parts, text_parts, types}
use Rattle.flat_values.specs.Held.Part.{Limited, Parameters, Signed, Text}
use Rattle.flat_values.specs.Links.{parameter_fields}

-- says that a reading gives values within bounds as they are
pub record Fits (r : Reading) (b : Bounds) : Type 0 where
  pub number : (limit n : ℕ) → b.Number limit n → r.number limit n ≡ n
  pub signed : (z : ℤ) → b.Signed z → r.signed z ≡ z
  pub text : (t : List ℕ) → b.Text t → r.text t ≡ t
  pub parameters : (es : List (List ℕ × List ℕ)) → b.Parameters es → r.parameters es ≡ es

-- that of a program, and one of all that rows say
below_is : (limit n : ℕ) → n < limit → below limit n ≡ n
below_is limit n h = ap (λ b. if b then n else 0) (lt-ltb n limit h)

signed_is : (z : ℤ) → IsSigned 32 z → signed_below z ≡ z
signed_is (pos n) h = ap pos (below_is (2 ^ 31) n h)
signed_is (negsuc n) h = ap (λ b. if b then negsuc n else pos 0) (lt-ltb n (2 ^ 31) h)

utf8_is : (t : List ℕ) → IsUtf8 t → utf8_or_none t ≡ t
utf8_is t h = rw (is_utf8-from_IsUtf8 t h) refl

pub held_fits : Fits held_form types
held_fits = record {
  number = below_is;
  signed = signed_is;
  text = utf8_is;
  parameters = λ es h. h;
}

abbrev pub any_reading : Reading
any_reading = record {
  number = λ limit n. n;
  signed = λ z. z;
  text = λ t. t;
  parameters = λ es. es;
}

abbrev pub any_bounds : Bounds
any_bounds = record {
  Number = λ limit n. Unit {0};
  Signed = λ z. Unit {0};
  Text = λ t. Unit {0};
  Parameters = λ es. Unit {0};
}

pub any_fits : Fits any_reading any_bounds
any_fits = record {
  number = λ limit n h. refl;
  signed = λ z h. refl;
  text = λ t h. refl;
  parameters = λ es h. refl;
}

pub any_part : (p : Part) → IsPart any_bounds p
any_part (Limited limit n) = tt
any_part (Signed z) = tt
any_part (Text t) = tt
any_part (Parameters es) = tt

pub any_within : (ps : List Part) → AreWithin any_bounds ps
any_within [] = tt
any_within (p ∷ ps) = (any_part p, any_within ps)

-- parts within bounds that come one after others
pub both_within : (b : Bounds) (ps qs : List Part) → AreWithin b (ps ++ qs)
    → AreWithin b ps × AreWithin b qs
both_within b [] qs h = (tt, h)
both_within b (p ∷ ps) qs h =
    let rest = both_within b ps qs h.1 in
    ((h.0, rest.0), rest.1)

-- flags, and parts of any bytes
pub flag_back : (b : Bool) → flag_of (Number (flag_number b)) ≡ b
flag_back false = refl
flag_back true = refl

pub parts_back : (ts : List (List ℕ))
    → map (λ s. text_of s.1) (map named_values (flat_map part_fields ts)) ≡ ts
parts_back [] = refl
parts_back (t ∷ ts) = ap (λ more. t ∷ more) (parts_back ts)

-- texts and lists
module _ (r : Reading) (b : Bounds) (f : Fits r b) where
  pub optional_is : (o : Option (List ℕ)) → AreWithin b (text_parts o)
      → option_map r.text o ≡ o
  optional_is None h = refl
  optional_is (Some t) h = ap Some (f.text t h.0)

  pub texts_back : (ts : List (List ℕ)) → AreTexts b ts
      → map (λ s. string_of r s.1) (map named_values (flat_map part_fields ts)) ≡ ts
  texts_back [] h = refl
  texts_back (t ∷ ts) h =
      let first = f.text t h.0 in
      let rest = texts_back ts h.1 in
      λ i. first i ∷ rest i

  pub numbers_back : (ns : List ℕ) → AreWithin b (map (Limited (2 ^ 8)) ns)
      → map (λ s. byte_of r s.1) (map named_values (flat_map index_fields ns)) ≡ ns
  numbers_back [] h = refl
  numbers_back (n ∷ ns) h =
      let first = f.number (2 ^ 8) n h.0 in
      let rest = numbers_back ns h.1 in
      λ i. first i ∷ rest i

  pub parameters_back : (es : List (List ℕ × List ℕ))
      → AreWithin b (flat_map parameter_parts es)
      → parameters r (map named_values (flat_map parameter_fields es)) ≡ es
  parameters_back [] h = refl
  parameters_back (e ∷ es) h =
      let key = f.text e.0 h.0 in
      let value = f.text e.1 h.1.0 in
      let rest = parameters_back es h.1.1 in
      λ i. (key i, value i) ∷ rest i
