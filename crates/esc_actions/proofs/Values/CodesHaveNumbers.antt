-- A code and its number name each other.
use Rattle.std.proofs.Common.{◌≡◌, ◌≢◌, ℕ, Bool, true, false, ◌==◌, ◌⊎◌, inl, inr, List, [], ◌∷◌, Option, Some, None, MatchOption, refl, sym}
use Rattle.std.proofs.lemmas.Bool.{cases_Bool, eqb-true}
use Rattle.esc_actions.specs.ControlCodes.{code_number, all_codes, first_numbered, code_of}
use Rattle.esc_actions.specs.declared.control_code.ControlCode.{ControlCode}
use Rattle.esc_actions.specs.declared.control_code.ControlCode.TheVariants as code

-- a code's number names it
pub code_of-code_number : (c : ControlCode) → code_of (code_number c) ≡ Some c
unfolding code_of
code_of-code_number code.Null = refl
code_of-code_number c = refl

none_numbered : (cs : List ControlCode) (b : ℕ) → ((c : ControlCode) → b ≢ code_number c)
    → first_numbered cs b ≡ None
none_numbered [] b h = refl
none_numbered (c ∷ cs) b h = elim (cases_Bool (b == code_number c)) [
  | inl held ↦ absurd (h c (eqb-true b (code_number c) held))
  | inr failed ↦ rw failed (none_numbered cs b h)
]

some_numbered : (cs : List ControlCode) (b : ℕ) (c : ControlCode) → first_numbered cs b ≡ Some c
    → code_number c ≡ b
some_numbered [] b c h = cc
some_numbered (d ∷ cs) b c h = elim (cases_Bool (b == code_number d)) [
  | inl held ↦ let e : d ≡ c = (let f = rw held at h in cc) in
      rw (← e) (sym (eqb-true b (code_number d) held))
  | inr failed ↦ some_numbered cs b c (rw failed at h)
]

-- and the number that names a code is its own
pub code_number-code_of : (b : ℕ) (c : ControlCode) → code_of b ≡ Some c → code_number c ≡ b
unfolding code_of
code_number-code_of b c h = some_numbered all_codes b c h

pub code_of_from : (b : ℕ) (r : Option ControlCode)
    → MatchOption r ((c : ControlCode) → b ≢ code_number c) (λ c. b ≡ code_number c) → r ≡ code_of b
unfolding code_of
code_of_from b None h = sym (none_numbered all_codes b h)
code_of_from b (Some c) h = rw h (sym (code_of-code_number c))
