-- The code that a text names.
use Rattle.std.proofs.Common.{◌≡◌, ◌≢◌, ℕ, ◌<◌, ◌≤◌, Bool, true, false, nat_eq, ◌==◌, nat_le, ◌&&◌, ◌||◌, ◌⊎◌, inl, inr, List, []}
use Rattle.std.proofs.Common.{◌∷◌, length, map, get_or, Option, Some, None, MatchOption, drop, ◌+◌, refl, sym, ap, ◌∙◌, arith}
use Rattle.std.specs.Cmp.Lexicographic.{pointwise, same_text}
use Rattle.std.proofs.Math.Bool.{and-false}
use Rattle.std.proofs.lemmas.List.{at_drop_more}
use Rattle.std.proofs.lemmas.Bool.{ne_eqb, lt-leb, le-leb, cases_Bool}
use Rattle.std.specs.List.{list_all}
use Rattle.esc_values.proofs.Clear.PlainPartsAreClear.{is_part_plain}
use Rattle.esc_osc_values.specs.Codes.{code_text, all_codes, first_named, code_of, code_name}
use Rattle.esc_osc_values.specs.declared.code.OperatingSystemCommandCode.{OperatingSystemCommandCode}
use Rattle.esc_osc_values.specs.declared.code.OperatingSystemCommandCode.TheVariants as code

-- a code's text names it
pub code_of-code_text : (c : OperatingSystemCommandCode) → code_of (code_text c) ≡ Some c
unfolding code_of
code_of-code_text code.SetIconNameAndWindowTitle = refl
code_of-code_text c = refl

first_named_none : (cs : List OperatingSystemCommandCode) (t : List ℕ)
    → ((c : OperatingSystemCommandCode) → t ≢ code_text c) → first_named cs t ≡ None
first_named_none [] t h = refl
first_named_none (c ∷ cs) t h =
    elim (cases_Bool (pointwise nat_eq t (code_text c))) [
      | inl held ↦ absurd (h c (same_text t (code_text c) (sym held)))
      | inr failed ↦ rw failed (first_named_none cs t h)
    ]

pub code_of_from : (t : List ℕ) (r : Option OperatingSystemCommandCode)
    → MatchOption r ((c : OperatingSystemCommandCode) → t ≢ code_text c) (λ c. t ≡ code_text c)
    → r ≡ code_of t
unfolding code_of
code_of_from t None h = sym (first_named_none all_codes t h)
code_of_from t (Some c) h = rw h (sym (code_of-code_text c))

-- a code whose text is another is passed over
pub named_later : (cs : List OperatingSystemCommandCode) (t : List ℕ) (i : ℕ)
    (d : OperatingSystemCommandCode) → i < length cs
    → pointwise nat_eq t (code_text (get_or cs i d)) ≡ false
    → first_named (drop (i + 1) cs) t ≡ first_named (drop i cs) t
named_later cs t i d lt differs =
    sym (at_drop_more (λ ks. first_named ks t) cs i d lt ∙ rw differs refl)

-- a text that names no code is that of none
pub code_of_none : (t : List ℕ) → code_of t ≡ None → (c : OperatingSystemCommandCode)
    → t ≢ code_text c
code_of_none t h c e = let found : code_of t ≡ Some c = ap code_of e ∙ code_of-code_text c in cc

-- the text of a code names it
first_named_text : (cs : List OperatingSystemCommandCode) (t : List ℕ)
    (c : OperatingSystemCommandCode) → first_named cs t ≡ Some c → t ≡ code_text c
first_named_text [] t c h = cc
first_named_text (d ∷ cs) t c h =
    elim (cases_Bool (pointwise nat_eq t (code_text d))) [
      | inl held ↦ let found : Some d ≡ Some c = rw held at h in let same : d ≡ c = cc in
          same_text t (code_text d) (sym held) ∙ ap code_text same
      | inr failed ↦ first_named_text cs t c (rw failed at h)
    ]

pub code_of_text : (t : List ℕ) (c : OperatingSystemCommandCode) → code_of t ≡ Some c
    → t ≡ code_text c
unfolding code_of
code_of_text t c h = first_named_text all_codes t c h

-- the characters that a code begins with: digits, `l` and `L`
abbrev begins_code : ℕ → Bool
begins_code b = (nat_le 0x30 b && nat_le b 0x39) || b == 0x6c || b == 0x4c

code_begins : (c : OperatingSystemCommandCode) → begins_code (get_or (code_text c) 0 0) ≡ true
code_begins code.SetIconNameAndWindowTitle = refl
code_begins c = refl

begins_not : (b : ℕ) → (b < 0x30) ⊎ (0x39 < b) → b ≢ 0x6c → b ≢ 0x4c → begins_code b ≡ false
begins_not b (inl low) l u = rw (lt-leb 0x30 b low, ne_eqb b 0x6c l, ne_eqb b 0x4c u) refl
begins_not b (inr high) l u =
    rw (lt-leb b 0x39 high, and-false (nat_le 0x30 b), ne_eqb b 0x6c l, ne_eqb b 0x4c u) refl

letter_differs : (b : ℕ) → (b < 0x30) ⊎ (0x39 < b) → b ≢ 0x6c → b ≢ 0x4c
    → (c : OperatingSystemCommandCode) → b ∷ [] ≢ code_text c
letter_differs b h l u c =
    λ e.
    let begins : begins_code b ≡ true = ap (λ t. begins_code (get_or t 0 0)) e ∙ code_begins c in
    let not : begins_code b ≡ false = begins_not b h l u in cc

pub letter_none : (b : ℕ) → (b < 0x30) ⊎ (0x39 < b) → b ≢ 0x6c → b ≢ 0x4c → code_of (b ∷ []) ≡ None
unfolding code_of
letter_none b h l u = first_named_none all_codes (b ∷ []) (letter_differs b h l u)

-- the text that names the code
pub code_name_more : {X : Type 0} (f : X → List ℕ) (t : List ℕ) (rest : List X)
    → nat_eq (length rest) 0 ≡ false → code_name t (map f rest) ≡ t
code_name_more f t [] h = cc
code_name_more f t (x ∷ xs) h = refl

pub code_name_letter : (t : List ℕ) → 0 < length t → (get_or t 0 0 < 0x30) ⊎ (0x39 < get_or t 0 0)
    → code_name t [] ≡ get_or t 0 0 ∷ []
code_name_letter [] h d = absurd (omega arith)
code_name_letter (x ∷ xs) h (inl low) = rw (lt-leb 0x30 x low)
code_name_letter (x ∷ xs) h (inr high) =
    elim (cases_Bool (nat_le 0x30 x)) [ inl up ↦ rw (up, lt-leb x 0x39 high) | inr down ↦ rw down ]

pub code_name_digit : (t : List ℕ) → 0x30 ≤ get_or t 0 0 → get_or t 0 0 ≤ 0x39 → code_name t [] ≡ t
code_name_digit t low high = rw (le-leb _ _ low, le-leb _ _ high)

pub code_of_nil : (t : List ℕ) → length t ≡ 0 → code_of (code_name t []) ≡ None
unfolding code_of
code_of_nil [] h = refl
code_of_nil (x ∷ xs) h = absurd (omega arith)

-- a code is a part of plain characters, and is not empty
pub code_plain : (c : OperatingSystemCommandCode) → list_all is_part_plain (code_text c) ≡ true
code_plain code.SetIconNameAndWindowTitle = refl
code_plain c = refl

abbrev is_some_text : List ℕ → Bool
is_some_text [] = false
is_some_text (c ∷ t) = true

some_text : (c : OperatingSystemCommandCode) → is_some_text (code_text c) ≡ true
some_text code.SetIconNameAndWindowTitle = refl
some_text c = refl

pub code_some : (c : OperatingSystemCommandCode) → code_text c ≢ []
code_some c =
    λ e.
    let no : is_some_text (code_text c) ≡ false = ap is_some_text e in
    let yes : is_some_text (code_text c) ≡ true = some_text c in cc

-- the text of a code names it, alone or not
code_alone : (c : OperatingSystemCommandCode) → code_name (code_text c) [] ≡ code_text c
code_alone code.SetIconNameAndWindowTitle = refl
code_alone c = refl

pub code_name_text : (c : OperatingSystemCommandCode) (args : List (List ℕ))
    → code_name (code_text c) args ≡ code_text c
code_name_text c [] = code_alone c
code_name_text c (p ∷ ps) = refl
