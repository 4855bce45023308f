-- Facts about a result that is an error.
use Rattle.std.proofs.Common.{◌≡◌, Result, Ok, Err}

pub ok_is_no_error : {T E : Type 0} (r : Result T E) (x : T) (e : E) → r ≡ Ok x → r ≡ Err e → ⊥
ok_is_no_error r x e h k = absurd cc

pub same_error : {T U E : Type 0} (r : Result T E) (e f : E) → r ≡ Err e → r ≡ Err f
    → ◌≡◌ {A = Result U E} (Err e) (Err f)
same_error r e f h k = cc
