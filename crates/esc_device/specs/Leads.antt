-- The bytes that a builder was pushed.
use Rattle.std.specs.Prelude.{ℕ, ℤ, ◌≡◌, List, [], ◌∷◌, ◌++◌}
use Rattle.esc_device.specs.Values.{short_of}
use Rattle.esc_device.specs.declared.builder.ShortBuilder.{ShortBuilder}

-- a builder with these parameters, intermediates and final byte that was pushed this data
unfoldable pub LeadsShort : {A : Type 0} → List ℤ → List ℕ → ℕ → List ℕ → ShortBuilder A → Type 0
LeadsShort ps is f d b = b.short ≡ short_of ps is f d

-- a byte pushed to p makes q of it
abbrev pub Pushes : {A : Type 0} → ShortBuilder A → ℕ → ShortBuilder A → Type 0
Pushes p b q = (ps : List ℤ) (is : List ℕ) (f : ℕ) (d : List ℕ) → LeadsShort ps is f d p
    → LeadsShort ps is f (d ++ b ∷ []) q
