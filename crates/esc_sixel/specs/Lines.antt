-- The data that the parts of a line of pixels give.
use Rattle.std.specs.Prelude.{ℕ, ◌≡◌, ◌<◌, ◌≤◌, ◌+◌, ◌-◌, ◌*◌, ◌⊎◌, List, [], ◌∷◌, None, drop, length, slice_index, take}
use Rattle.std.specs.List.{All}
use Rattle.esc_values.specs.Params.{capped_at_i64}
use Rattle.esc_sixel.specs.Classes.{IsDigit}
use Rattle.esc_sixel.specs.declared.parameters.Parameters.{Parameters}
use Rattle.esc_sixel.specs.declared.sixel_data.SixelData.{SixelData}
use Rattle.esc_sixel.specs.declared.sixel_data.SixelData.TheVariants.{CarriageReturn, NewLine}

-- a number with these digits after its own
abbrev pub number_after : ℕ → List ℕ → ℕ
number_after n [] = n
number_after n (b ∷ bs) = number_after (capped_at_i64 (10 * n + (b - 0x30))) bs

-- the bytes from a place on
abbrev pub rest_at : ℕ → List ℕ → List ℕ
rest_at at xs = take (length xs - at) (drop at xs)

-- at this place are k digits, one or more, whose number is n, and right after them is b
pub record NumberBefore (xs : List ℕ) (at b n k : ℕ) : Type 0 where
  pub some : 0 < k
  pub few : k ≤ length (rest_at at xs)
  pub digits : All IsDigit (take k (rest_at at xs))
  pub number : n ≡ number_after 0 (take k (rest_at at xs))
  pub small : n < 10000
  pub within : at + k < length xs
  pub mark : slice_index xs (at + k) ≡ b

-- parameters before anything has come
abbrev pub fresh : Parameters
fresh = record { values = None ∷ None ∷ None ∷ None ∷ None ∷ []; count = 0 }

-- a byte that ends a line, and the data that it gives
abbrev pub Ends : ℕ → SixelData → Type 0
Ends b d = ((b ≡ 0x24) × (d ≡ CarriageReturn)) ⊎ ((b ≡ 0x2d) × (d ≡ NewLine))
