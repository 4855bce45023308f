-- The bytes that go into a caller's buffer.
use Rattle.std.specs.Prelude.{ℕ, ◌≡◌, ◌≢◌, List, ◌++◌, drop, length, min, take}
use Rattle.std.specs.Global.{Global}
use Rattle.esc_calls.specs.declared.TheConstants.{DONE, NO_MEMORY}
use Rattle.fallible_alloc.specs.Refusals.{Refused}

-- as many of these as there is room for, and after them the old ones
abbrev pub put_into : {X : Type 0} → List X → List X → List X
put_into xs room = take (length room) xs ++ drop (length xs) room

-- As many of these as fit were put at the beginning of a buffer, and so many there are.
pub record Puts {X : Type 0} (xs before after : List X) (count : ℕ) : Type 0 where
  pub written : after ≡ put_into xs before
  pub counted : count ≡ length xs

-- So many bytes of a text, from its byte `from` on, were put at the beginning of a buffer.
pub record Copies (text : List ℕ) (from : ℕ) (before after : List ℕ) (count : ℕ) : Type 0 where
  -- as much as fits, and the rest of the buffer is as it was
  pub written : after ≡ put_into (drop from text) before
  pub counted : count ≡ min (length (drop from text)) (length before)

-- The effect of a call that writes a text for which P holds, or returns a status for which R holds.
-- A pair is a buffer and a length:
pub record Writes (P : List ℕ → Type 0) (R : ℕ → Type 0) (status : ℕ) (before after : List ℕ × ℕ)
    : Type 0 where
  -- as much of the text as fits, and its length
  pub written : status ≡ DONE → (t : List ℕ) × P t × Puts t before.0 after.0 after.1
  -- or nothing
  pub refused : status ≢ DONE → R status × (after.0 ≡ before.0) × (after.1 ≡ before.1)

-- memory was refused
abbrev pub LacksMemory : ℕ → Type 0
LacksMemory status = (status ≡ NO_MEMORY) × Refused Global
