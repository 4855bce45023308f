-- The parts that the calls that write a caller's values have in common.
use Rattle.std.specs.Prelude.{ℕ, ◌≡◌, ◌⊎◌}
use Rattle.std.specs.Global.{Global}
use Rattle.esc_calls.specs.declared.TheConstants.{NO_COMMAND, NO_MEMORY, NOT_WRITABLE}
use Rattle.esc_calls.specs.declared.refusal.Refusal.{Refusal}
use Rattle.esc_calls.specs.declared.refusal.Refusal.TheVariants as refusal
use Rattle.fallible_alloc.specs.Refusals.{Refused}

-- the status that says a refusal
abbrev pub status_of : Refusal → ℕ
status_of refusal.NoCommand = NO_COMMAND
status_of refusal.NotWritable = NOT_WRITABLE
status_of refusal.NoMemory = NO_MEMORY

-- The reason why no text was written, if Has says which values are as the caller says: no value
-- that can be held is, no writable one is, or memory was refused.
pub record RefusedFor {V : Type 0} (Has IsHeld IsWritable : V → Type 0) (status : ℕ)
    : Type 0 where
  pub known : (status ≡ NO_COMMAND) ⊎ ((status ≡ NOT_WRITABLE) ⊎ (status ≡ NO_MEMORY))
  pub none : status ≡ NO_COMMAND → (v : V) → IsHeld v → Has v → ⊥
  pub unwritable : status ≡ NOT_WRITABLE → (v : V) → IsWritable v → Has v → ⊥
  pub memory : status ≡ NO_MEMORY → Refused Global
