-- The rest of the lines of a stream.
use Rattle.std.specs.Prelude.{ℕ, ◌+◌, max, Bool, true, false, not, ◌||◌, if◌then◌else◌, List, [], ◌∷◌, ◌++◌, is_some, take}
use Rattle.std.specs.List.{list_all}
use Rattle.esc_actions.specs.Values.{Value, csi, esc, osc}
use Rattle.esc_screen.specs.Cells.{is_joined}
use Rattle.esc_screen.specs.Grids.{Grid}
use Rattle.esc_screen.specs.Scrolled.{main_rows}
use Rattle.esc_screen.specs.declared.cell.Cell.{Cell}
use Rattle.esc_terminal.specs.Links.{Known, lead_in}
use Rattle.esc_terminal.specs.Scrolled.{Row, off_after, with_known}
use Rattle.esc_terminal.specs.Streams.{Shown, first_shown, shown_after, values_of as terminal_values}
use Rattle.typed_functions.specs.Escapes.{of_escape}
use Rattle.typed_functions.specs.Functions.{Value as Function, of_csi, renditions}
use Rattle.screen_lines.specs.Parts.{Out, emptied_out, first_out}
use Rattle.screen_lines.specs.Rows.{is_hidden, out_by_rows}
use Rattle.line_collapse.specs.Windows.{Size, screen_of}

-- ---- the rows that are left on a screen

-- something is seen of a row, or it goes on in the next one
abbrev pub is_seen : Known → List Cell → Bool
is_seen k xs = is_joined xs || not (list_all (is_hidden k) xs)

-- so many rows, or those up to one of this place, where that is seen
abbrev pub count_with : Known → ℕ → ℕ → List Cell → ℕ
count_with k n i r = if is_seen k r then max n (i + 1) else n

-- so many rows, or those up to the last that is seen, of which the first has this place
abbrev pub count_seen : Known → ℕ → ℕ → List (List Cell) → ℕ
count_seen k n i [] = n
count_seen k n i (r ∷ rs) = count_seen k (count_with k n i r) (i + 1) rs

-- the rows up to that of the cursor, where the main screen is seen
abbrev pub cursor_rows : Grid → ℕ
cursor_rows g = if g.alternate then 0 else g.cursor.row + 1

-- those of the main screen, up to the last one of which something is seen, and that of the cursor
abbrev pub rows_left : Known → Grid → List (List Cell)
rows_left k g = take (count_seen k (cursor_rows g) 0 (main_rows g)) (main_rows g)

-- the rows that are left of a screen
abbrev pub left_rows : Shown → List Row
left_rows t = with_known t.known (rows_left t.known t.grid)

-- ---- values, one after another

-- the screen after values
abbrev pub shown_by_all : {A : Type 0} → Size → List (Value A) → Shown
shown_by_all z vs = shown_after (screen_of z) (first_shown (screen_of z)) vs

-- the text that is written of the rows that values scroll off the screen
abbrev pub final_out : {A : Type 0} → Size → List (Value A) → Out
final_out z vs = out_by_rows (first_out z.characters)
    (off_after (screen_of z) (first_shown (screen_of z)) vs)

-- the text of the rows that are final, and of those that may still be written again
abbrev pub final_of : {A : Type 0} → Size → List (Value A) → List ℕ
final_of z vs = (final_out z vs).text

abbrev pub open_of : {A : Type 0} → Size → List (Value A) → List ℕ
open_of z vs =
    (out_by_rows (emptied_out (final_out z vs)) (left_rows (shown_by_all z vs))).text

-- the rest of the lines
abbrev pub left_of : {A : Type 0} → Size → List (Value A) → List ℕ
left_of z vs = final_of z vs ++ open_of z vs

-- the values of a stream, of which a title or a link has no more than 4,096 bytes
abbrev pub values_of : (A : Type 0) → List ℕ → List (Value A)
values_of A s = terminal_values A s

-- ---- selections

abbrev pub is_selection : Function → Bool
is_selection (renditions rs) = true
is_selection _ = false

-- whether it selects how the characters look that come, or where they lead
abbrev pub selects : {A : Type 0} → Value A → Bool
selects (csi c) = is_selection (of_csi c)
selects (esc e) = is_selection (of_escape e)
selects (osc c) = is_some (lead_in c)
selects _ = false
