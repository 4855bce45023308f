-- The array of a list of parameters. No contract of `VTParser` cites it.
use Rattle.std.specs.Prelude.{ℕ, ◌≡◌, ◌≤◌, List, [], length, take, Option, Some, None}
use Rattle.esc_values.specs.declared.csi_param.CsiParam.{CsiParam}

-- the parameters: the first n cells of the array, if it is filled
abbrev pub first_cells : ℕ → Option (List CsiParam) → List CsiParam
first_cells n None = []
first_cells n (Some cells) = take n cells

-- there are so many cells
abbrev pub HasCells : ℕ → Option (List CsiParam) → Type 0
HasCells n None = n ≡ 0
HasCells n (Some cells) = (n ≤ 256) × (length cells ≡ 256)
