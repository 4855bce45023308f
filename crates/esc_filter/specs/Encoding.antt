-- The text that an encoder wrote.
use Rattle.std.specs.Prelude.{ℕ, ◌≡◌, false, List, [], ◌∷◌, ◌++◌}
use Rattle.esc_actions.specs.Texts.{list_text}
use Rattle.esc_actions.specs.Values.{Value}
use Rattle.esc_normal.specs.Texts.{ends_in_string}
use Rattle.esc_filter.specs.declared.encoder.Encoder.{Encoder}

-- the encoder wrote nothing
abbrev pub IsNew : Encoder → Type 0
IsNew e = e.follows_string ≡ false

-- the encoder wrote these values, one after another
abbrev pub HasWritten : {A : Type 0} → List (Value A) → Encoder → Type 0
HasWritten vs e = e.follows_string ≡ ends_in_string false vs

-- a text grows as the list's text does with v at its end
abbrev pub AddsTo : {A : Type 0} → List (Value A) → Value A → List ℕ → List ℕ → Type 0
AddsTo vs v old new = (t : List ℕ) × (list_text (vs ++ v ∷ []) ≡ list_text vs ++ t)
    × (new ≡ old ++ t)
