-- The header that a private prefix, parameters and intermediates write is read as these.
use Rattle.std.proofs.Common.{ℕ, ℤ, pos, negsuc, ◌≡◌, ◌≢◌, ◌<◌, ◌^◌, Bool, true, false, List, [], ◌∷◌, ◌++◌, length, map, refl, ap, sym, ◌∙◌}
use Rattle.std.proofs.Common.{take-append-drop, arith}
use Rattle.std.specs.Fmt.{decimal, signed_decimal}
use Rattle.std.specs.List.{list_all, flat_map, prefix_len, take_while}
use Rattle.std.proofs.lemmas.Bool.{and_parts}
use Rattle.std.proofs.lemmas.Fmt.{decimal_nonempty}
use Rattle.std.proofs.lemmas.List.{append_cancel_left}
use Rattle.std.proofs.lemmas.List.Folds.{list_all-append, flat_map-map}
use Rattle.std.proofs.lemmas.List.Sums.{take_while-cons}
use Rattle.esc_values.specs.Clear.{AreClearParts, semicolon_list}
use Rattle.esc_values.specs.Params.{is_private_prefix, is_intermediate_byte, after_private_prefix, drop_while, capped_at_i64, value_after}
use Rattle.esc_values.proofs.Clear.NumbersAreClear.{decimal_part, decimal_passes}
use Rattle.esc_values.proofs.Clear.SplitAndJoined.{parts_text}
use Rattle.esc_frame.specs.Bodies.{is_dcs_parameter, is_dcs_header, dcs_params, dcs_intermediates, private_prefix_of}
use Rattle.esc_sixel.specs.Writable.{IsNatural, AreNatural, params_of}
use Rattle.esc_sixel.proofs.Runs.RunsAreNumbers.{decimal_slice}
use Rattle.esc_device.proofs.Bytes.{intermediate_no_private_prefix, intermediate_no_parameter, parameter_no_private_prefix}
use Rattle.esc_device.specs.Says.{IsMark, ReadsBack}
use Rattle.esc_device.specs.Texts.{params_text}

-- the first byte, if there is one, does not pass
abbrev pub NotFirst : (ℕ → Bool) → List ℕ → Type 0
NotFirst p [] = Unit {0}
NotFirst p (b ∷ x) = p b ≡ false

take_prefix : (p : ℕ → Bool) (xs ys : List ℕ) → list_all p xs ≡ true → NotFirst p ys
    → take_while p (xs ++ ys) ≡ xs
take_prefix p [] [] h k = refl
take_prefix p [] (y ∷ ys) h k = take_while-cons p y ys ∙ rw k refl
take_prefix p (x ∷ xs) ys h k =
    let q = and_parts (p x) (list_all p xs) h in
    take_while-cons p x (xs ++ ys) ∙ rw q.0 (ap (λ z. x ∷ z) (take_prefix p xs ys q.1 k))

drop_prefix : (p : ℕ → Bool) (xs ys : List ℕ) → list_all p xs ≡ true → NotFirst p ys
    → drop_while p (xs ++ ys) ≡ ys
drop_prefix p xs ys h k =
    append_cancel_left xs (drop_while p (xs ++ ys)) ys
    (ap (λ z. z ++ drop_while p (xs ++ ys)) (sym (take_prefix p xs ys h k))
    ∙ take-append-drop (prefix_len p (xs ++ ys)) (xs ++ ys))

-- a header of a private prefix, parameter bytes and intermediates
not_parameter : (is : List ℕ) → list_all is_intermediate_byte is ≡ true
    → NotFirst is_dcs_parameter is
not_parameter [] h = tt
not_parameter (i ∷ is) h =
    intermediate_no_parameter i
    (and_parts (is_intermediate_byte i) (list_all is_intermediate_byte is) h).0

pub not_private_prefix : (is : List ℕ) → list_all is_intermediate_byte is ≡ true
    → NotFirst is_private_prefix is
not_private_prefix [] h = tt
not_private_prefix (i ∷ is) h =
    intermediate_no_private_prefix i
    (and_parts (is_intermediate_byte i) (list_all is_intermediate_byte is)
    h).0

not_private_prefix_first : (x is : List ℕ) → list_all is_dcs_parameter x ≡ true
    → list_all is_intermediate_byte is ≡ true → NotFirst is_private_prefix (x ++ is)
not_private_prefix_first [] is h k = not_private_prefix is k
not_private_prefix_first (b ∷ x) is h k =
    parameter_no_private_prefix b (and_parts (is_dcs_parameter b) (list_all is_dcs_parameter x) h).0

pub after_mark : (m r : List ℕ) → IsMark m → NotFirst is_private_prefix r
    → after_private_prefix (m ++ r) ≡ r
after_mark [] [] h k = refl
after_mark [] (b ∷ r) h k = rw k refl
after_mark (i ∷ []) r h k = rw h refl
after_mark (i ∷ j ∷ x) r h k = absurd h

mark_of : (m r : List ℕ) → IsMark m → NotFirst is_private_prefix r → private_prefix_of (m ++ r) ≡ m
mark_of [] [] h k = refl
mark_of [] (b ∷ r) h k = rw k refl
mark_of (i ∷ []) r h k = rw h refl
mark_of (i ∷ j ∷ x) r h k = absurd h

-- its form, its parameters, its intermediates
pub record Formed (m x is : List ℕ) : Type 0 where
  pub form : is_dcs_header (m ++ (x ++ is)) ≡ true
  pub params : dcs_params (m ++ (x ++ is)) ≡ params_of x
  pub intermediates : dcs_intermediates (m ++ (x ++ is)) ≡ m ++ is

pub formed : (m x is : List ℕ) → IsMark m → list_all is_dcs_parameter x ≡ true
    → list_all is_intermediate_byte is ≡ true → Formed m x is
unfolding is_dcs_header dcs_params dcs_intermediates
formed m x is hm hx hi =
    let plain = not_private_prefix_first x is hx hi in
    let rest = not_parameter is hi in
    record {
      form = ap (λ y. list_all is_intermediate_byte (drop_while is_dcs_parameter y))
          (after_mark m (x ++ is) hm plain)
          ∙ ap (list_all is_intermediate_byte) (drop_prefix is_dcs_parameter x is hx rest) ∙ hi;
      params = ap (λ y. params_of (take_while is_dcs_parameter y))
          (after_mark m (x ++ is) hm plain)
          ∙ ap params_of (take_prefix is_dcs_parameter x is hx rest);
      intermediates =
          ap (λ y. y ++ drop_while is_dcs_parameter (after_private_prefix (m ++ (x ++ is))))
          (mark_of m (x ++ is) hm plain)
          ∙ ap (λ y. m ++ drop_while is_dcs_parameter y) (after_mark m (x ++ is) hm plain)
          ∙ ap (λ y. m ++ y) (drop_prefix is_dcs_parameter x is hx rest);
    }

-- parameters
number_passes : (z : ℤ) → IsNatural z → list_all is_dcs_parameter (signed_decimal z) ≡ true
number_passes (pos n) h = decimal_passes is_dcs_parameter refl n (omega (arith, h))
number_passes (negsuc n) h = absurd h

-- with `;` before each
abbrev more_text : List ℤ → List ℕ
more_text ps = flat_map (λ q. 0x3b ∷ signed_decimal q) ps

more_pass : (ps : List ℤ) → AreNatural ps → list_all is_dcs_parameter (more_text ps) ≡ true
more_pass [] h = refl
more_pass (p ∷ ps) h = rw (
  list_all-append is_dcs_parameter (signed_decimal p) (more_text ps),
  number_passes p h.0,
  more_pass ps h.1,
) refl

pub params_pass : (ps : List ℤ) → AreNatural ps → list_all is_dcs_parameter (params_text ps) ≡ true
params_pass [] h = refl
params_pass (p ∷ ps) h = rw (
  list_all-append is_dcs_parameter (signed_decimal p) (more_text ps),
  number_passes p h.0,
  more_pass ps h.1,
) refl

are_parts : (ps : List ℤ) → AreNatural ps → AreClearParts (map signed_decimal ps)
are_parts [] h = tt
are_parts (pos n ∷ ps) h = (decimal_part n (omega (arith, h.0)), are_parts ps h.1)
are_parts (negsuc n ∷ ps) h = absurd h.0

not_one_empty : (ps : List ℤ) → AreNatural ps → map signed_decimal ps ≢ [] ∷ []
not_one_empty [] h e = cc
not_one_empty (pos n ∷ ps) h e =
    let some = decimal_nonempty n (omega (arith, h.0)) in
    let none : decimal n ≡ [] = cc in
    let zero = ap length none in omega (arith, some, zero)
not_one_empty (negsuc n ∷ ps) h e = absurd h.0

abbrev number_of_slice : List ℕ → ℤ
number_of_slice p = pos (capped_at_i64 (value_after 0 p))

held_small : (n : ℕ) → n < 2 ^ 63 → capped_at_i64 n ≡ n
held_small n small = omega arith

numbers_back : (ps : List ℤ) → AreNatural ps → map number_of_slice (map signed_decimal ps) ≡ ps
numbers_back [] h = refl
numbers_back (pos n ∷ ps) h =
    let slice = decimal_slice n (omega (arith, h.0)) in
    ap (λ k. pos (capped_at_i64 k) ∷ map number_of_slice (map signed_decimal ps)) slice.value
    ∙ ap (λ k. pos k ∷ map number_of_slice (map signed_decimal ps)) (held_small n h.0)
    ∙ ap (λ r. pos n ∷ r) (numbers_back ps h.1)
numbers_back (negsuc n ∷ ps) h = absurd h.0

params_joined : (ps : List ℤ) → params_text ps ≡ semicolon_list (map signed_decimal ps)
params_joined [] = refl
params_joined (p ∷ ps) =
    ap (λ x. signed_decimal p ++ x) (sym (flat_map-map (λ q. 0x3b ∷ q) signed_decimal ps))

params_back : (ps : List ℤ) → AreNatural ps → params_of (params_text ps) ≡ ps
params_back ps h =
    ap params_of (params_joined ps)
    ∙ ap (map number_of_slice) (parts_text (map signed_decimal ps) (
      are_parts ps h,
      not_one_empty ps h,
    )).1 ∙ numbers_back ps h

pub headers_read_back : (m : List ℕ) (ps : List ℤ) (is : List ℕ) → IsMark m → AreNatural ps
    → list_all is_intermediate_byte is ≡ true → ReadsBack m ps is
headers_read_back m ps is hm hp hi =
    let q = formed m (params_text ps) is hm (params_pass ps hp) hi in
    (q.form, q.params ∙ params_back ps hp, q.intermediates)
