-- The grid that a screen shows.
use Rattle.std.specs.Prelude.{◌≡◌}
use Rattle.esc_screen.specs.Grids.{Grid, Size}
use Rattle.esc_screen.specs.Steps.{grid_by}
use Rattle.esc_screen.specs.declared.screen.Screen.{Screen}
use Rattle.esc_screen.specs.declared.step.Step.{Step}

abbrev pub grid_of : {A : Type 0} → Screen A → Grid
grid_of p = record {
  rows = p.rows.items;
  other = p.other.items;
  alternate = p.alternate;
  cursor = p.cursor;
  saved = p.saved;
  other_saved = p.other_saved;
  top = p.top;
  bottom = p.bottom;
  modes = p.modes;
  tabs = p.tabs.items;
}

abbrev pub size_of : {A : Type 0} → Screen A → Size
size_of p = record {
  rows = p.max_rows;
  columns = p.max_columns;
  returns = p.returns;
}

-- the same screen with this grid
pub record Becomes {A : Type 0} (p : Screen A) (g : Grid) (q : Screen A) : Type 0 where
  pub grid : grid_of q ≡ g
  pub size : size_of q ≡ size_of p

-- a step does to it what it does to its grid
abbrev pub Takes : {A : Type 0} → Screen A → Step → Screen A → Type 0
Takes p s q = Becomes p (grid_by (size_of p) (grid_of p) s) q
