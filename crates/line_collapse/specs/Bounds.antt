-- How long the rest of lines can become.
use Rattle.std.specs.Prelude.{ℕ, ◌≤◌, ◌+◌, ◌*◌, List, length}
use Rattle.esc_actions.specs.Values.{Value}
use Rattle.esc_terminal.specs.Bounds.{value_most}
use Rattle.screen_lines.specs.Bounds.{row_most}
use Rattle.screen_lines.specs.Parts.{first_room}
use Rattle.line_collapse.specs.Streams.{left_of}
use Rattle.line_collapse.specs.Windows.{Size, screen_of}

-- the most rows of so many values, with those that are left on the screen
abbrev pub rows_most : Size → ℕ → ℕ
rows_most z n = n * value_most (screen_of z) + (screen_of z).rows

-- their text has at most so many bytes for each of them, besides those of the first links
abbrev pub IsBounded : Type 0 → Type 0
IsBounded A = (z : Size) (vs : List (Value A)) → length (left_of z vs)
    ≤ rows_most z (length vs) * row_most (screen_of z).columns + first_room
