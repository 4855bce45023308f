-- The values of the header events of any stream.
use Rattle.std.proofs.Common.{ℕ, ℤ, pos, ◌≡◌, ◌≤◌, ◌==◌, nat_lt, Bool, true, false, if◌then◌else◌, List, [], ◌∷◌, length, map, take}
use Rattle.std.proofs.Common.{refl, ap, sym, ◌∙◌, subst, arith, inl, inr, take_all}
use Rattle.std.specs.List.{list_all, list_any, take_while}
use Rattle.std.proofs.lemmas.Bool.{cases_Bool, eqb-true}
use Rattle.std.proofs.lemmas.Bool.Decides.{nat_tests}
use Rattle.esc_values.specs.Clear.{parts_of}
use Rattle.esc_values.specs.Params.{is_private_prefix, is_intermediate_byte, after_private_prefix, drop_while, capped_at_i64, value_after}
use Rattle.esc_frame.specs.Bodies.{is_dcs_parameter, is_dcs_header, dcs_params, dcs_intermediates, private_prefix_of}
use Rattle.esc_frame.specs.Classes.{AllOf, is_put}
use Rattle.esc_frame.specs.Events.Event.{DcsHook}
use Rattle.esc_frame.specs.Fits.{IsFit}
use Rattle.esc_sixel.specs.Writable.{AreNatural}
use Rattle.esc_device.proofs.Bytes.{ends_final, put_data}
use Rattle.esc_device.proofs.Headers.{after_mark, not_private_prefix}
use Rattle.esc_device.specs.Kinds.{kind_of, query_kind}
use Rattle.esc_device.specs.Says.{IsMark}
use Rattle.esc_device.specs.Values.{enter_of, short_of}
use Rattle.esc_device.specs.Writable.{AreIntermediates, IsWritableEnter, IsWritableShort, is_high_byte}
use Rattle.esc_device.specs.declared.kind.StringKind.TheVariants as kind

-- parameters
are_natural : (slices : List (List ℕ))
    → AreNatural (map (λ p. pos (capped_at_i64 (value_after 0 p))) slices)
are_natural [] = tt
are_natural (p ∷ ps) = (omega arith, are_natural ps)

header_natural : (x : List ℕ) → AreNatural (dcs_params x)
unfolding dcs_params
header_natural x = are_natural (parts_of (take_while is_dcs_parameter (after_private_prefix x)))

-- the parts of its header that a header event has
pub hook_parts : (f g : ℕ) (ps qs : List ℤ) (is js : List ℕ) (s t : Bool)
    → DcsHook f ps is s ≡ DcsHook g qs js t → (f ≡ g) × (ps ≡ qs) × (is ≡ js) × (s ≡ t)
hook_parts f g ps qs is js s t e = (cc, cc, cc, cc)

pub params_are_natural : (f : ℕ) (ps : List ℤ) (is : List ℕ) (more : Bool)
    → IsFit (DcsHook f ps is more) → AreNatural ps
params_are_natural f ps is more (x, body, form, same, ends) =
    let all = dcs_intermediates x in
    let q = hook_parts f f ps (dcs_params x) is (take 2 all) more (nat_lt 2 (length all)) same in
    subst AreNatural (sym q.1) (header_natural x)

-- intermediates
is_mark : (x : List ℕ) → IsMark (private_prefix_of x)
is_mark [] = tt
is_mark (b ∷ x) = elim (cases_Bool (is_private_prefix b)) [
  | inl e ↦ rw e e
  | inr e ↦ rw e tt
]

kept_whole : (is : List ℕ) → nat_lt 2 (length is) ≡ false → (take 2 is ≡ is) × (length is ≤ 2)
kept_whole is h = let few : length is ≤ 2 = grind (arith, nat_tests) in (take_all 2 is few, few)

of_header : (x : List ℕ) → is_dcs_header x ≡ true
    → list_all is_intermediate_byte (after_private_prefix (dcs_intermediates x)) ≡ true
unfolding is_dcs_header dcs_intermediates
of_header x h =
    let rest = drop_while is_dcs_parameter (after_private_prefix x) in
    ap (list_all is_intermediate_byte)
    (after_mark (private_prefix_of x) rest (is_mark x) (not_private_prefix rest h)) ∙ h

whole_intermediates : (x is : List ℕ) → is_dcs_header x ≡ true → is ≡ take 2 (dcs_intermediates x)
    → nat_lt 2 (length (dcs_intermediates x)) ≡ false
    → AreIntermediates is
whole_intermediates x is h e few =
    let q = kept_whole (dcs_intermediates x) few in
    subst AreIntermediates (sym (e ∙ q.0)) (of_header x h, q.1)

pub hook_is_writable : (A : Type 0) (f : ℕ) (ps : List ℤ) (is : List ℕ) (more : Bool)
    → IsFit (DcsHook f ps is more) → kind_of f is more ≡ kind.Other
    → more ≡ false → IsWritableEnter {A = A} (enter_of f ps is more)
hook_is_writable A f ps is more (x, body, form, same, ends) other whole =
    let all = dcs_intermediates x in
    let q = hook_parts f f ps (dcs_params x) is (take 2 all) more (nat_lt 2 (length all)) same in
    let kind : kind_of f is false ≡ kind.Other =
    subst (λ m. kind_of f is m ≡ kind.Other) whole other in (
      ends_final f ends,
      whole_intermediates x is form q.2 (sym q.3 ∙ whole),
      subst AreNatural (sym q.1) (header_natural x),
      whole,
      kind,
    )

-- the header of a short control
abbrev IsShortHeader : ℕ → List ℕ → Type 0
IsShortHeader f is = (f ≡ 0x71) × (is ≡ 0x24 ∷ [])

by_intermediate : (i : ℕ) → query_kind (i ∷ []) ≡ kind.Short → i ≡ 0x24
by_intermediate i h = elim (cases_Bool (i == 0x24)) [
  | inl e ↦ eqb-true i 0x24 e
  | inr e ↦ elim (cases_Bool (i == 0x2b)) [
    | inl d ↦ let other = rw d at h in cc
    | inr d ↦ let other = rw (d, e) at h in cc
  ]
]

by_query : (is : List ℕ) → query_kind is ≡ kind.Short → is ≡ 0x24 ∷ []
by_query [] h = cc
by_query (i ∷ []) h = ap (λ j. j ∷ []) (by_intermediate i h)
by_query (i ∷ j ∷ is) h = cc

by_final : (f : ℕ) (is : List ℕ) (t : Bool) → (f == 0x71) ≡ t
    → (if t then query_kind is else kind.Other) ≡ kind.Short → IsShortHeader f is
by_final f is true e h = (eqb-true f 0x71 e, by_query is h)
by_final f is false e h = cc

short_header : (f : ℕ) (is : List ℕ) (more : Bool) → kind_of f is more ≡ kind.Short
    → IsShortHeader f is
short_header f is true h = cc
short_header f is false h = by_final f is (f == 0x71) refl h

pub short_is_writable : (A : Type 0) (f : ℕ) (ps : List ℤ) (is : List ℕ) (more : Bool) (d : List ℕ)
    → IsFit (DcsHook f ps is more)
    → kind_of f is more ≡ kind.Short → AllOf is_put d → list_any is_high_byte d ≡ false
    → IsWritableShort {A = A} (short_of ps is f d)
short_is_writable A f ps is more d fit short put low =
    let q = short_header f is more short in
    (q.0, q.1, params_are_natural f ps is more fit, put_data d put low)
