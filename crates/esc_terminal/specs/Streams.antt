-- A terminal after a stream.
use Rattle.std.specs.Prelude.{ℕ, List, [], ◌∷◌, ◌++◌, Option, Some, None}
use Rattle.esc_actions.specs.Meaning.{meaning_within}
use Rattle.esc_actions.specs.Values.{Value, osc}
use Rattle.esc_osc.specs.declared.command.OperatingSystemCommand.{OperatingSystemCommand}
use Rattle.esc_osc.specs.declared.command.OperatingSystemCommand.TheVariants as command
use Rattle.esc_terminal.specs.Links.{Known, first_known}
use Rattle.esc_screen.specs.Grids.{Grid, Size, first_grid}
use Rattle.esc_screen.specs.Steps.{grid_from}
use Rattle.esc_terminal.specs.Requests.{requests_of}
use Rattle.esc_terminal.specs.Steps.{known_by, steps_of}
use Rattle.esc_terminal.specs.declared.request.Request.{Request}

-- the title of a window, and the name of its icon
pub record Names : Type 0 where
  pub title : Option (List ℕ)
  pub icon_name : Option (List ℕ)

-- at first
abbrev pub no_names : Names
no_names = record {
  title = None;
  icon_name = None;
}

-- the grid of a screen, the looks and links of its cells, which have the numbers of these, and the
-- names of its window
pub record Shown : Type 0 where
  pub grid : Grid
  pub known : Known
  pub names : Names

-- at first
abbrev pub first_shown : Size → Shown
first_shown z = record {
  grid = first_grid z;
  known = first_known;
  names = no_names;
}

-- ---- a value

-- the names after it: OSC 2 and l are for the title, 1 and L for the icon, and 0 for both
abbrev pub names_by_command : {A : Type 0} → Names → OperatingSystemCommand A → Names
names_by_command n (command.SetIconNameAndWindowTitle x) = record {
  title = Some x;
  icon_name = Some x;
}
names_by_command n (command.SetWindowTitle x) = record n { title = Some x }
names_by_command n (command.SetWindowTitleSun x) = record n { title = Some x }
names_by_command n (command.SetIconName x) = record n { icon_name = Some x }
names_by_command n (command.SetIconNameSun x) = record n { icon_name = Some x }
names_by_command n _ = n

abbrev pub names_by : {A : Type 0} → Names → Value A → Names
names_by n (osc c) = names_by_command n c
names_by n _ = n

-- the grid is that after its steps
abbrev pub shown_by : {A : Type 0} → Size → Shown → Value A → Shown
shown_by z t v = record {
  grid = grid_from z t.grid (steps_of t.known t.grid.cursor v);
  known = known_by t.known t.grid.cursor v;
  names = names_by t.names v;
}

-- ---- values, one after another

abbrev pub shown_after : {A : Type 0} → Size → Shown → List (Value A) → Shown
shown_after z t [] = t
shown_after z t (v ∷ vs) = shown_after z (shown_by z t v) vs

-- the requests of values, in order
abbrev pub asked_by : {A : Type 0} → List (Value A) → List Request
asked_by [] = []
asked_by (v ∷ vs) = requests_of v ++ asked_by vs

-- ---- streams

-- the values of a stream, where a name has no more than 4,096 bytes
abbrev pub values_of : (A : Type 0) → List ℕ → List (Value A)
values_of A s = meaning_within {A = A} (Some 0x1000) s

-- the screen that a terminal of this size shows of a stream
abbrev pub shown_of : Type 0 → Size → List ℕ → Shown
shown_of A z s = shown_after z (first_shown z) (values_of A s)
