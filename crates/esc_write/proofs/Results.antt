-- Results.
use Rattle.std.proofs.Common.{◌≡◌, Bool, OnErr, OnOk, Result, Ok, Err, true, false}
use Rattle.esc_write.specs.declared.encode_error.EncodeError.{EncodeError}
use Rattle.esc_write.specs.declared.encode_error.EncodeError.TheVariants as error

pub ok_both : {E : Type 0} (X Y : Type 0) (r : Result (Unit {0}) E) → (X → Y) → OnOk r X → OnOk r Y
ok_both X Y (Ok t) f h = f h
ok_both X Y (Err e) f h = tt

pub on_any_error : {T E P : Type 0} (r : Result T E) → P → OnErr r P
on_any_error (Ok t) p = tt
on_any_error (Err e) p = p

pub ok_is_no_error : {T E : Type 0} (r : Result T E) (t : T) (e : E) → r ≡ Ok t → r ≡ Err e → ⊥
ok_is_no_error r t e h k = absurd cc

pub memory_is_not_fmt : {T : Type 0} (r : Result T EncodeError) → r ≡ Err error.Memory
    → r ≡ Err error.Fmt → ⊥
memory_is_not_fmt r h k = absurd cc

-- an event that never comes, comes exactly if a test fails that never fails
pub never_without : {P : Type 0} (t : Bool) → t ≡ true → (P → ⊥) → (P → t ≡ false) × (t ≡ false → P)
never_without t sure never = (λ p. absurd (never p), λ h. absurd cc)
