-- Groups that are added or taken away, one after another.
use Rattle.std.proofs.Common.{arith, ◌≡◌, ℕ, ◌+◌, ◌-◌, ◌<◌, ◌==◌, ◌&&◌, Bool, true, false, if◌then◌else◌, List, get_or, set, length, nat_lt, refl, sym, ap, ◌∙◌, inl, inr, zero, suc}
use Rattle.std.proofs.lemmas.Bool.{cases_Bool, eqb-true, eqb-false}
use Rattle.std.proofs.lemmas.Bool.Decides.{nat_tests}
use Rattle.std.proofs.lemmas.List.{get_or-set_other, get_or-set_same}
use Rattle.esc_filter.proofs.Admission.ChoicesAdmit.{below}
use Rattle.esc_filter.specs.Groups.{place}
use Rattle.esc_filter.specs.declared.group.Group.{Group}
use Rattle.escfilter.specs.Choices.{has_word, is_named}
use Rattle.escfilter.specs.declared.named_groups.TheConstants.{GROUPS}

-- whether the group of this place is chosen, once the first i words were looked at
abbrev pub chosen : ℕ → ℕ → Bool → List Bool → ℕ → Bool
chosen i n b ys p = if nat_lt p (i + 1) && (nat_lt 0 p && has_word (p - 1) n) then b
    else get_or ys p false

same_side : (p i : ℕ) → (p ≡ i + 1 → ⊥) → nat_lt p (i + 1) ≡ nat_lt p (i + 1 + 1)
same_side p i h = grind (arith, nat_tests)

chosen_other : (i n : ℕ) (b : Bool) (ys : List Bool) (p : ℕ) → (p ≡ i + 1 → ⊥)
    → chosen i n b ys p ≡ chosen (i + 1) n b ys p
chosen_other i n b ys p h = ap
    (λ z. if z && (nat_lt 0 p && has_word (p - 1) n) then b else get_or ys p false)
    (same_side p i h)

-- where the word of the next group is there
pub chosen_set : (i n : ℕ) (b : Bool) (xs ys : List Bool) → has_word i n ≡ true → i + 1 < length xs
    → ((p : ℕ) → get_or xs p false ≡ chosen i n b ys p)
    → (p : ℕ) → get_or (set xs (i + 1) b) p false ≡ chosen (i + 1) n b ys p
chosen_set i n b xs ys w l h p = elim (cases_Bool (p == i + 1)) [
  | inl is ↦
      let e : p ≡ i + 1 = eqb-true p (i + 1) is in
      let here : get_or (set xs (i + 1) b) (i + 1) false ≡ b =
      get_or-set_same xs (i + 1) b false l in
      let lower : nat_lt (i + 1) (i + 1 + 1) ≡ true = grind (arith, nat_tests) in
      let some : nat_lt 0 (i + 1) ≡ true = grind (arith, nat_tests) in
      let before : i + 1 - 1 ≡ i = omega arith in
      rw e (here ∙ sym (rw (lower, some, before, w) refl))
  | inr other ↦
      let h' : p ≡ i + 1 → ⊥ = eqb-false p (i + 1) other in
      get_or-set_other xs (i + 1) p b false h' ∙ h p ∙ chosen_other i n b ys p h'
]

-- where it is not
pub chosen_kept : (i n : ℕ) (b : Bool) (xs ys : List Bool) → has_word i n ≡ false
    → ((p : ℕ) → get_or xs p false ≡ chosen i n b ys p)
    → (p : ℕ) → get_or xs p false ≡ chosen (i + 1) n b ys p
chosen_kept i n b xs ys w h p = elim (cases_Bool (p == i + 1)) [
  | inl is ↦
      let e : p ≡ i + 1 = eqb-true p (i + 1) is in
      let lower : nat_lt (i + 1) (i + 1) ≡ false = grind (arith, nat_tests) in
      let some : nat_lt 0 (i + 1) ≡ true = grind (arith, nat_tests) in
      let before : i + 1 - 1 ≡ i = omega arith in
      let was : get_or xs (i + 1) false ≡ get_or ys (i + 1) false = h (i + 1) ∙ rw lower refl in
      let above : nat_lt (i + 1) (i + 1 + 1) ≡ true = grind (arith, nat_tests) in
      rw e (was ∙ sym (rw (above, some, before, w) refl))
  | inr other ↦ h p ∙ chosen_other i n b ys p (eqb-false p (i + 1) other)
]

-- the places of the groups that have words
pub group_place : (i : ℕ) (d : Group) → i < 15 → place (get_or GROUPS i d) ≡ i + 1
unfolding place
group_place zero d h = refl
group_place (suc zero) d h = refl
group_place (suc (suc zero)) d h = refl
group_place (suc (suc (suc zero))) d h = refl
group_place (suc (suc (suc (suc zero)))) d h = refl
group_place (suc (suc (suc (suc (suc zero))))) d h = refl
group_place (suc (suc (suc (suc (suc (suc zero)))))) d h = refl
group_place (suc (suc (suc (suc (suc (suc (suc zero))))))) d h = refl
group_place (suc (suc (suc (suc (suc (suc (suc (suc zero)))))))) d h = refl
group_place (suc (suc (suc (suc (suc (suc (suc (suc (suc zero))))))))) d h = refl
group_place (suc (suc (suc (suc (suc (suc (suc (suc (suc (suc zero)))))))))) d h = refl
group_place (suc (suc (suc (suc (suc (suc (suc (suc (suc (suc (suc zero))))))))))) d h = refl
group_place (suc (suc (suc (suc (suc (suc (suc (suc (suc (suc (suc (suc zero)))))))))))) d h = refl
group_place (suc (suc (suc (suc (suc (suc (suc (suc (suc (suc (suc (suc (suc zero))))))))))))) d h =
    refl
group_place (suc (suc (suc (suc (suc (suc (suc (suc (suc (suc (suc (suc (suc (suc zero))))))))))))))
    d h = refl
group_place
    (suc (suc (suc (suc (suc (suc (suc (suc (suc (suc (suc (suc (suc (suc (suc n)))))))))))))))
    d h = absurd (omega (arith, h))

in_range : (p : ℕ) → p < 16 → nat_lt p 16 ≡ true
in_range p h = grind (arith, nat_tests)

-- once all were looked at
pub chosen_all : (i n : ℕ) (b : Bool) (ys : List Bool) (c : Group) → i + 1 ≡ 16
    → chosen i n b ys (place c) ≡ (if is_named c n then b else get_or ys (place c) false)
chosen_all i n b ys c e =
    let here : nat_lt (place c) 16 ≡ true = in_range (place c) (below c) in
    rw (e, here) refl
