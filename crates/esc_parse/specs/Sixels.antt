-- Sixel images: the kept state of an unfinished one.
use Rattle.std.specs.Prelude.{ℕ, ℤ, ◌≡◌, List, [], ◌∷◌, ◌++◌}
use Rattle.esc_sixel.specs.Steps.{HasConsumed}
use Rattle.esc_parse.specs.declared.sixel_text.SixelText.{SixelText}

-- the text of an image with these parameters and this data
unfoldable pub Holds : {A : Type 0} → List ℤ → List ℕ → SixelText A → Type 0
Holds ps s t = HasConsumed ps [] t.header × (t.data ≡ s)

-- a byte pushed to p makes q of it
abbrev pub Pushes : {A : Type 0} → SixelText A → ℕ → SixelText A → Type 0
Pushes p b q = (ps : List ℤ) (s : List ℕ) → Holds ps s p → Holds ps (s ++ b ∷ []) q
