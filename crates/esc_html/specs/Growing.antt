-- Texts that grow.
use Rattle.std.specs.Prelude.{ℕ, ◌≡◌, List, ◌++◌}
use Rattle.std.specs.Str.{IsUtf8}

-- whole characters have come after a text
abbrev pub Grows : List ℕ → List ℕ → Type 0
Grows before after = (x : List ℕ) × IsUtf8 x × (after ≡ before ++ x)
