-- The bytes that a builder takes of those that come next. Only private contracts cite it.
use Rattle.std.specs.Prelude.{ℕ, ◌≡◌, ◌<◌, ◌≤◌, List, [], ◌∷◌, ◌++◌, None, get_or, length, take}
use Rattle.std.specs.List.{FoldsTo}
use Rattle.esc_sixel.specs.Steps.{Pushes}
use Rattle.esc_sixel.specs.declared.builder.SixelBuilder.{SixelBuilder}
use Rattle.esc_sixel.specs.declared.sixel.Sixel.{Sixel}
use Rattle.esc_sixel.specs.declared.sixel_data.SixelData.{SixelData}

-- These bytes, at least one, come outside a command.
pub record AreOutside {A : Type 0} (p : SixelBuilder A) (rest : List ℕ) : Type 0 where
  pub some : 0 < length rest
  pub closed : p.introducer ≡ None

-- This byte comes first, outside a command.
pub record ComesOutside {A : Type 0} (p : SixelBuilder A) (b : ℕ) (rest : List ℕ) : Type 0 where
  pub outside : AreOutside p rest
  pub first : get_or rest 0 0 ≡ b

-- The first n of these bytes, at least one, make q of p.
pub record TakesFirst {A : Type 0} (p : SixelBuilder A) (rest : List ℕ) (n : ℕ)
    (q : SixelBuilder A) : Type 0 where
  pub some : 0 < n
  pub few : n ≤ length rest
  pub pushes : FoldsTo Pushes p (take n rest) q

-- an image, and the builder of one, with one more slice of data
abbrev pub with_data : {A : Type 0} → Sixel A → SixelData → Sixel A
with_data s d = record s { content = s.content ++ d ∷ [] }

abbrev pub with_slice : {A : Type 0} → SixelBuilder A → SixelData → SixelBuilder A
with_slice p d = record p { sixel = with_data p.sixel d }
