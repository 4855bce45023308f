-- Groups that are added or taken away by their bits, one after another.
use Rattle.std.proofs.Common.{arith, ◌≡◌, ℕ, ◌+◌, ◌<◌, ◌==◌, ◌&&◌, Bool, true, false, if◌then◌else◌, List, get_or, set, length, nat_lt, refl, sym, ap, ◌∙◌, inl, inr, zero, suc}
use Rattle.std.proofs.lemmas.Bool.{cases_Bool, eqb-true, eqb-false}
use Rattle.std.proofs.lemmas.Bool.Decides.{nat_tests}
use Rattle.std.proofs.lemmas.List.{get_or-set_other, get_or-set_same}
use Rattle.esc_filter.proofs.Admission.ChoicesAdmit.{below}
use Rattle.esc_filter.specs.Groups.{place}
use Rattle.esc_filter.specs.declared.group.Group.{Group}
use Rattle.esc_calls.specs.SanitizerGroups.{has_bit}
use Rattle.esc_calls.specs.declared.said_groups.TheConstants.{GROUPS}

-- whether the group of this place is chosen, once the first i bits were looked at
abbrev pub chosen : ℕ → ℕ → Bool → List Bool → ℕ → Bool
chosen i n b ys p = if nat_lt p i && has_bit p n then b else get_or ys p false

same_side : (p i : ℕ) → (p ≡ i → ⊥) → nat_lt p i ≡ nat_lt p (i + 1)
same_side p i h = grind (arith, nat_tests)

chosen_other : (i n : ℕ) (b : Bool) (ys : List Bool) (p : ℕ) → (p ≡ i → ⊥)
    → chosen i n b ys p ≡ chosen (i + 1) n b ys p
chosen_other i n b ys p h =
    ap (λ z. if z && has_bit p n then b else get_or ys p false) (same_side p i h)

-- if the next bit is there
pub chosen_set : (i n : ℕ) (b : Bool) (xs ys : List Bool) → has_bit i n ≡ true → i < length xs
    → ((p : ℕ) → get_or xs p false ≡ chosen i n b ys p)
    → (p : ℕ) → get_or (set xs i b) p false ≡ chosen (i + 1) n b ys p
chosen_set i n b xs ys w l h p = elim (cases_Bool (p == i)) [
  | inl is ↦
      let e : p ≡ i = eqb-true p i is in
      let here : get_or (set xs i b) i false ≡ b = get_or-set_same xs i b false l in
      let lower : nat_lt i (i + 1) ≡ true = grind (arith, nat_tests) in
      rw e (here ∙ sym (rw (lower, w) refl))
  | inr other ↦
      let h' : p ≡ i → ⊥ = eqb-false p i other in
      get_or-set_other xs i p b false h' ∙ h p ∙ chosen_other i n b ys p h'
]

-- if it is not
pub chosen_kept : (i n : ℕ) (b : Bool) (xs ys : List Bool) → has_bit i n ≡ false
    → ((p : ℕ) → get_or xs p false ≡ chosen i n b ys p)
    → (p : ℕ) → get_or xs p false ≡ chosen (i + 1) n b ys p
chosen_kept i n b xs ys w h p = elim (cases_Bool (p == i)) [
  | inl is ↦
      let e : p ≡ i = eqb-true p i is in
      let lower : nat_lt i i ≡ false = grind (arith, nat_tests) in
      let was : get_or xs i false ≡ get_or ys i false = h i ∙ rw lower refl in
      let above : nat_lt i (i + 1) ≡ true = grind (arith, nat_tests) in
      rw e (was ∙ sym (rw (above, w) refl))
  | inr other ↦ h p ∙ chosen_other i n b ys p (eqb-false p i other)
]

-- the places of the groups
later : (j : ℕ) (d : Group) → j < 8
    → place (get_or GROUPS (suc (suc (suc (suc (suc (suc (suc (suc j)))))))) d)
    ≡ suc (suc (suc (suc (suc (suc (suc (suc j)))))))
unfolding place
later zero d h = refl
later (suc zero) d h = refl
later (suc (suc zero)) d h = refl
later (suc (suc (suc zero))) d h = refl
later (suc (suc (suc (suc zero)))) d h = refl
later (suc (suc (suc (suc (suc zero))))) d h = refl
later (suc (suc (suc (suc (suc (suc zero)))))) d h = refl
later (suc (suc (suc (suc (suc (suc (suc zero))))))) d h = refl
later (suc (suc (suc (suc (suc (suc (suc (suc n)))))))) d h = absurd (omega (arith, h))

pub group_place : (i : ℕ) (d : Group) → i < 16 → place (get_or GROUPS i d) ≡ i
unfolding place
group_place zero d h = refl
group_place (suc zero) d h = refl
group_place (suc (suc zero)) d h = refl
group_place (suc (suc (suc zero))) d h = refl
group_place (suc (suc (suc (suc zero)))) d h = refl
group_place (suc (suc (suc (suc (suc zero))))) d h = refl
group_place (suc (suc (suc (suc (suc (suc zero)))))) d h = refl
group_place (suc (suc (suc (suc (suc (suc (suc zero))))))) d h = refl
group_place (suc (suc (suc (suc (suc (suc (suc (suc j)))))))) d h =
    let less : j < 8 = omega (arith, h) in later j d less

in_range : (p : ℕ) → p < 16 → nat_lt p 16 ≡ true
in_range p h = grind (arith, nat_tests)

-- once all were looked at
pub chosen_all : (i n : ℕ) (b : Bool) (ys : List Bool) (c : Group) → i ≡ 16
    → chosen i n b ys (place c) ≡ (if has_bit (place c) n then b else get_or ys (place c) false)
chosen_all i n b ys c e =
    let here : nat_lt (place c) 16 ≡ true = in_range (place c) (below c) in
    rw (e, here) refl
