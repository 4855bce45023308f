-- How long the text of rows can become.
use Rattle.std.specs.Prelude.{ℕ, ◌≤◌, ◌+◌, ◌*◌, List, length}
use Rattle.std.specs.List.{All}
use Rattle.esc_filter.specs.declared.unicode.Unicode.{Unicode}
use Rattle.esc_terminal.specs.Bounds.{AreLooks}
use Rattle.esc_terminal.specs.Scrolled.{Row}
use Rattle.screen_lines.specs.Parts.{first_out, first_room}
use Rattle.screen_lines.specs.Rows.{out_by_rows}

-- a row of at most so many cells, in looks whose colours have bytes for numbers
abbrev pub IsRow : ℕ → Row → Type 0
IsRow n r = (length r.0 ≤ n) × AreLooks r.1.looks

-- so many bytes are the most that a row of so many cells adds, with those by which the room for
-- links grows
abbrev pub row_most : ℕ → ℕ
row_most n = 608 * n + 228

-- rows add at most as many each, besides the room for links that there is at first
abbrev pub AreBounded : Type 0
AreBounded = (n : ℕ) (u : Unicode) (rs : List Row) → All (IsRow n) rs
    → length (out_by_rows (first_out u) rs).text ≤ length rs * row_most n + first_room
