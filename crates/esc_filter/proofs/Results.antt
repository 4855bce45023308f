-- Results of calls.
use Rattle.std.proofs.Common.{is_ok, if◌then◌else◌, ◌≡◌, ℕ, List, [], ◌∷◌, ◌++◌, inl, inr, Ok, Err, OnOk, Result}
use Rattle.esc_parse.specs.Given.{StopsAt}

-- a giver that does not stop by itself stops at a value, for the reason for which that is refused
pub stops_for : {P V : Type 0} (R Q : P → V → P → Type 0) (why : Type 0)
    → ((p : P) (v : V) (q : P) → Q p v q → why)
    → (p : P) (vs : List V) (q : P) → StopsAt ⊥ R Q p vs q → why
stops_for R Q why says p [] q e = absurd e.0
stops_for R Q why says p (v ∷ vs) q (inl e) = absurd e.0
stops_for R Q why says p (v ∷ vs) q (inr (inl z)) = says p v q z
stops_for R Q why says p (v ∷ vs) q (inr (inr (mid, t, rest))) =
    stops_for R Q why says mid vs q rest

-- a text that grew if the call that makes it grow did not fail
pub pushed : {T E X : Type 0} (r : Result T E) (old more new : List ℕ)
    → new ≡ (if is_ok r then old ++ more else old) → (new ≡ old ++ more → X) → OnOk r X
pushed (Ok t) old more new e f = f e
pushed (Err x) old more new e f = tt
