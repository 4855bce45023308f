-- A number that is read, as a test.
use Rattle.std.proofs.Common.{ℕ, ◌≡◌, ◌==◌, Bool, true, false, Option, Some, None, ap}
use Rattle.std.proofs.lemmas.Bool.{eqb-true}

abbrev pub is_found : ℕ → Option ℕ → Bool
is_found b None = false
is_found b (Some c) = c == b

pub found : (b : ℕ) (o : Option ℕ) → is_found b o ≡ true → o ≡ Some b
found b None h = cc
found b (Some c) h = ap Some (eqb-true c b h)
