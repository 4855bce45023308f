-- Cells that are as at first.
use Rattle.std.specs.Prelude.{ℕ, ◌≡◌, ◌≤◌, List, get_or}
use Rattle.esc_screen.specs.Cells.{blank}
use Rattle.esc_screen.specs.declared.cell.Cell.{Cell}

-- each cell from one on is blank and has the first look, as all have at first
abbrev pub IsUnusedFrom : ℕ → List Cell → Type 0
IsUnusedFrom n xs = (i : ℕ) → n ≤ i → get_or xs i (blank 0) ≡ blank 0
