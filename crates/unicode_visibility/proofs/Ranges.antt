-- Ranges of characters, none of which deceives.
use Rattle.std.proofs.Common.{◌≡◌, ℕ, ◌<◌, ◌≤◌, ◌&&◌, nat_le, ◌||◌, arith, Bool, true, false, nat_lt, List, [], ◌∷◌, refl, subst}
use Rattle.std.specs.List.{list_all}
use Rattle.std.proofs.lemmas.Bool.{and_parts, ne_eqb}
use Rattle.std.proofs.lemmas.Bool.Decides.{nat_tests}
use Rattle.ucd_table.specs.Rows.{Range, in_ranges}
use Rattle.ucd_derived.specs.Binary.{is_default_ignorable_code_point}
use Rattle.ucd_derived.specs.DefaultIgnorableCodePointRanges.{default_ignorable_code_point_ranges}
use Rattle.ucd_props.specs.Binary.{is_bidi_control}
use Rattle.ucd_props.specs.Ranges.{bidi_control_ranges}
use Rattle.unicode_visibility.specs.Characters.{is_deceiving}

leb_true : (a b : ℕ) → nat_le a b ≡ true → a ≤ b
leb_true a b h = grind (arith, nat_tests)

ltb_true : (a b : ℕ) → nat_lt a b ≡ true → a < b
ltb_true a b h = grind (arith, nat_tests)

-- the range has none of the characters from a to b
abbrev is_apart : ℕ → ℕ → Range → Bool
is_apart a b r = nat_lt r.1 a || nat_lt b r.0

not_within : (a b x y c : ℕ) → (nat_lt y a || nat_lt b x) ≡ true → a ≤ c → c ≤ b
    → (nat_le x c && nat_le c y) ≡ false
not_within a b x y c h l m = by (nat_le x c) refl (nat_le c y) refl
  where
    outside : (t : Bool) → nat_lt y a ≡ t → x ≤ c → c ≤ y → ⊥
    outside true e j k = omega (arith, ltb_true y a e, l, k)
    outside false e j k =
        omega (arith, ltb_true b x (subst (λ z. (z || nat_lt b x) ≡ true) e h), m, j)

    by : (t : Bool) → nat_le x c ≡ t → (z : Bool) → nat_le c y ≡ z → (t && z) ≡ false
    by true e true f = absurd (outside (nat_lt y a) refl (leb_true x c e) (leb_true c y f))
    by true e false f = refl
    by false e z f = refl

apart : (a b : ℕ) (rs : List Range) (c : ℕ) → list_all (is_apart a b) rs ≡ true → a ≤ c → c ≤ b
    → in_ranges rs c ≡ false
unfolding in_ranges
apart a b [] c h l m = refl
apart a b (r ∷ rs) c h l m =
    let k = and_parts (is_apart a b r) (list_all (is_apart a b) rs) h in
    rw (not_within a b r.0 r.1 c k.0 l m) (apart a b rs c k.1 l m)

-- the separators of lines and of paragraphs, as a range
abbrev separators : List Range
separators = (0x2028, 0x2028) ∷ (0x2029, 0x2029) ∷ []

abbrev are_apart : ℕ → ℕ → Bool
are_apart a b = list_all (is_apart a b) default_ignorable_code_point_ranges
    && (list_all (is_apart a b) bidi_control_ranges && list_all (is_apart a b) separators)

far_plain : (a b c : ℕ) → are_apart a b ≡ true → a ≤ c → c ≤ b → is_deceiving c ≡ false
unfolding is_deceiving is_default_ignorable_code_point is_bidi_control
far_plain a b c h l m =
    let k = and_parts (list_all (is_apart a b) default_ignorable_code_point_ranges)
    (list_all (is_apart a b) bidi_control_ranges && list_all (is_apart a b) separators) h in
    let j = and_parts (list_all (is_apart a b) bidi_control_ranges)
    (list_all (is_apart a b) separators) k.1 in
    let i = and_parts (is_apart a b (0x2028, 0x2028)) (is_apart a b (0x2029, 0x2029) && true)
    j.1 in
    let i' = and_parts (is_apart a b (0x2029, 0x2029)) true i.1 in
    rw (
      apart a b default_ignorable_code_point_ranges c k.0 l m,
      apart a b bidi_control_ranges c j.0 l m,
      ne_eqb c 0x2028 (other 0x2028 i.0),
      ne_eqb c 0x2029 (other 0x2029 i'.0),
    ) refl
  where
    other : (x : ℕ) → is_apart a b (x, x) ≡ true → c ≡ x → ⊥
    other x h e = by (nat_lt x a) refl
      where
        by : (t : Bool) → nat_lt x a ≡ t → ⊥
        by true f = omega (arith, ltb_true x a f, l, e)
        by false f =
            omega (arith, ltb_true b x (subst (λ z. (z || nat_lt b x) ≡ true) f h), m, e)

first_apart : are_apart 0 0xac ≡ true
unfolding default_ignorable_code_point_ranges bidi_control_ranges
first_apart = refl

pub second_far : (c : ℕ) → 0xae ≤ c → c ≤ 0x34e → is_deceiving c ≡ false
unfolding default_ignorable_code_point_ranges bidi_control_ranges
second_far c = far_plain 0xae 0x34e c refl

pub third_far : (c : ℕ) → 0x350 ≤ c → c ≤ 0x61b → is_deceiving c ≡ false
unfolding default_ignorable_code_point_ranges bidi_control_ranges
third_far c = far_plain 0x350 0x61b c refl

pub fourth_far : (c : ℕ) → 0x2010 ≤ c → c ≤ 0x2027 → is_deceiving c ≡ false
unfolding default_ignorable_code_point_ranges bidi_control_ranges
fourth_far c = far_plain 0x2010 0x2027 c refl

pub fifth_far : (c : ℕ) → 0x2070 ≤ c → c ≤ 0x3163 → is_deceiving c ≡ false
unfolding default_ignorable_code_point_ranges bidi_control_ranges
fifth_far c = far_plain 0x2070 0x3163 c refl

pub sixth_far : (c : ℕ) → 0x3165 ≤ c → c ≤ 0xfdff → is_deceiving c ≡ false
unfolding default_ignorable_code_point_ranges bidi_control_ranges
sixth_far c = far_plain 0x3165 0xfdff c refl

pub last_far : (c : ℕ) → 0x1d17b ≤ c → c ≤ 0xdffff → is_deceiving c ≡ false
unfolding default_ignorable_code_point_ranges bidi_control_ranges
last_far c = far_plain 0x1d17b 0xdffff c refl

pub low_plain : (c : ℕ) → c < 0xad → is_deceiving c ≡ false
low_plain c l = far_plain 0 0xac c first_apart (omega arith) (omega (arith, l))

-- ---- a character that stands in for others

pub replacement_plain : is_deceiving 0xfffd ≡ false
unfolding default_ignorable_code_point_ranges bidi_control_ranges
replacement_plain = far_plain 0xfff9 0xfffd 0xfffd refl (omega arith) (omega arith)
