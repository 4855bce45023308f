-- Modes of ECMA-48.
use Rattle.std.specs.Prelude.{ℕ, Bool, true, false, List, [], map, get_or, Option, Some, None}
use Rattle.control_functions.specs.Rows.{first_keyed}
use Rattle.control_functions.specs.declared.mode.Mode.{Mode}
use Rattle.control_functions.specs.declared.mode.Mode.TheVariants as variant
use Rattle.control_functions.specs.declared.mode_table.TheConstants.{NAMES, ROWS, WORDS}
use Rattle.control_functions.specs.contracts.mode.Mode.{the_type}
use denote.Enum.Declared.{tag_of}

-- the place of a mode's row: modes and rows are in one order
unfoldable pub place : Mode → ℕ
place m = tag_of the_type m

-- the number of a mode, which its row has
unfoldable pub number_of : Mode → ℕ
number_of m = get_or (map (λ r. r.number) ROWS) (place m) 0

-- its name, and the setting that is set and reset, in words
unfoldable pub name_of : Mode → List ℕ
name_of m = get_or (map (λ n. n.now) NAMES) (place m) []

unfoldable pub words_of : Mode → List ℕ
words_of m = get_or (map (λ w. w.now) WORDS) (place m) []

-- the mode of a number
unfoldable pub mode_of : ℕ → Option Mode
mode_of n = first_keyed (λ r. r.number) (λ r. r.mode) ROWS n

-- those that change the screen alone
unfoldable pub changes_screen : Mode → Bool
changes_screen variant.IRM = true
changes_screen _ = false

-- there is a mode, and it changes the screen alone
abbrev pub is_screen : Option Mode → Bool
is_screen None = false
is_screen (Some m) = changes_screen m
