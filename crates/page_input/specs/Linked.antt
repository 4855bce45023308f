-- How long a stream becomes with links around its addresses.
use Rattle.std.specs.Prelude.{ℕ, ◌+◌, ◌-◌, ◌*◌, ◌≤◌, List, length, Option, None, Some, ⊤}
use Rattle.page_input.specs.declared.linker.Linker.{Linker}
use Rattle.page_input.specs.declared.linking.Linking.{Linking}

-- An address becomes at most four times as long, and any other byte stays as it is. So these are
-- the bytes that were made, and four for each byte that is held.
abbrev pub weight : Linker → ℕ
weight l = length l.made.items + 4 * length l.held.items

-- At most so many bytes a reader may hand out before it reads more.
abbrev pub debt : {R : Type 0} → Linking R → ℕ
debt l = (length l.linker.made.items - l.at) + 4 * length l.linker.held.items

-- While a reader read on, with this left and then that, if both are known, the second number grew
-- by at most four for each byte that was read.
abbrev pub IsPaid : Option (List ℕ) → Option (List ℕ) → ℕ → ℕ → Type 0
IsPaid None new m n = ⊤
IsPaid (Some xs) None m n = ⊥
IsPaid (Some xs) (Some ys) m n = n + 4 * length ys ≤ m + 4 * length xs
