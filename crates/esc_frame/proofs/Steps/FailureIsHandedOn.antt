-- A call that hands on the error of a call that it made.
use Rattle.std.proofs.Common.{◌≡◌, Result, Ok, Err, IsErr, refl}

pub error_of : {T E : Type 0} (r : Result T E) → IsErr r → (e : E) × (r ≡ Err e)
error_of (Ok x) k = absurd cc
error_of (Err e) k = (e, refl)
