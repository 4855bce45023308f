-- The change of a screen's grid by each step.
use Rattle.std.specs.Prelude.{List, [], ◌∷◌}
use Rattle.esc_screen.specs.Grids.{Grid, Size}
use Rattle.esc_screen.specs.Printing.{mark_printed, narrow_printed, grid_with_repeats, wide_printed}
use Rattle.esc_screen.specs.Motions.{grid_by_motion}
use Rattle.esc_screen.specs.Changes.{grid_by_change}
use Rattle.esc_screen.specs.Settings.{grid_by_setting}
use Rattle.esc_screen.specs.declared.step.Step.{Step}
use Rattle.esc_screen.specs.declared.step.Step.TheVariants as step

-- the grid after a step
abbrev pub grid_by : Size → Grid → Step → Grid
grid_by s g (step.Print c) = narrow_printed s c g
grid_by s g (step.PrintWide c) = wide_printed s c g
grid_by s g (step.Mark c) = mark_printed c g
grid_by s g (step.Repeat n) = grid_with_repeats s n g
grid_by s g (step.Move m) = grid_by_motion s g m
grid_by s g (step.Edit e) = grid_by_change s g e
grid_by s g (step.Set x) = grid_by_setting s g x
grid_by s g step.Nothing = g

-- and after steps, one after another
abbrev pub grid_from : Size → Grid → List Step → Grid
grid_from s g [] = g
grid_from s g (x ∷ xs) = grid_from s (grid_by s g x) xs
