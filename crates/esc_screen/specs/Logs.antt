-- A log of plain text, of any length.
use Rattle.std.specs.Prelude.{ℕ, ◌-◌, ◌≡◌, ◌<◌, max, List, [], ◌∷◌, ◌++◌, length, map, replicate}
use Rattle.esc_screen.specs.Cells.{blank_row}
use Rattle.esc_screen.specs.Grids.{Size, first_grid}
use Rattle.esc_screen.specs.Paints.{AllFit, row_of}
use Rattle.esc_screen.specs.Scrolled.{off_from}
use Rattle.esc_screen.specs.Steps.{grid_from}
use Rattle.esc_screen.specs.declared.change.Change.TheVariants as change
use Rattle.esc_screen.specs.declared.motion.Motion.TheVariants as motion
use Rattle.esc_screen.specs.declared.step.Step.{Step}
use Rattle.esc_screen.specs.declared.step.Step.TheVariants as step

-- the characters of each line, and CR and LF after them
abbrev pub log_of : List (List ℕ) → List Step
log_of [] = []
log_of (cs ∷ css) = map step.Print cs
    ++ (step.Move motion.RowStart ∷ step.Edit change.LineFeed ∷ log_of css)

-- the rows that are scrolled off a new screen, and then those that are left on it, are the lines,
-- however many there are, and blank rows: one at least, that of the cursor
abbrev pub KeepsLog : Type 0
KeepsLog = (s : Size) (css : List (List ℕ)) → 0 < s.rows → AllFit s css
    → off_from s (first_grid s) (log_of css) ++ (grid_from s (first_grid s) (log_of css)).rows
    ≡ map (row_of s) css ++ replicate (max 1 (s.rows - length css)) (blank_row 0 s.columns)
