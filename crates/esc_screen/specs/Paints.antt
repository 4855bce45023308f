-- Steps that paint a screen of plain text.
use Rattle.std.specs.Prelude.{ℕ, ◌+◌, ◌-◌, ◌≤◌, ◌≡◌, List, [], ◌∷◌, ◌++◌, length, map}
use Rattle.esc_screen.specs.Cells.{blank_row, drawn_cell}
use Rattle.esc_screen.specs.Grids.{Size, first_grid}
use Rattle.esc_screen.specs.Steps.{grid_from}
use Rattle.esc_screen.specs.declared.cell.Cell.{Cell}
use Rattle.esc_screen.specs.declared.motion.Motion.TheVariants as motion
use Rattle.esc_screen.specs.declared.step.Step.{Step}
use Rattle.esc_screen.specs.declared.step.Step.TheVariants as step

abbrev pub plain_cell : ℕ → Cell
plain_cell c = drawn_cell 0 c

-- the row with these characters, of one column each, and blank cells after them
abbrev pub row_of : Size → List ℕ → List Cell
row_of s cs = map plain_cell cs ++ blank_row 0 (s.columns - length cs)

-- to the first column of each row from this one on, and its characters
abbrev pub paint_from : ℕ → List (List ℕ) → List Step
paint_from i [] = []
paint_from i (cs ∷ css) =
    step.Move (motion.Position i 0) ∷ (map step.Print cs ++ paint_from (i + 1) css)

-- each has no more characters than there are columns
abbrev pub AllFit : Size → List (List ℕ) → Type 0
AllFit s [] = 0 ≤ 0
AllFit s (cs ∷ css) = (length cs ≤ s.columns) × AllFit s css

-- a painted screen shows the rows that were painted
abbrev pub PaintsPlain : Type 0
PaintsPlain = (s : Size) (css : List (List ℕ)) → length css ≡ s.rows → AllFit s css
    → (grid_from s (first_grid s) (paint_from 0 css)).rows ≡ map (row_of s) css
