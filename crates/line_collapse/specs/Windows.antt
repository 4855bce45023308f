-- The screen of which the lines are left.
use Rattle.std.specs.Prelude.{ℕ, false, max, min, true}
use Rattle.esc_filter.specs.declared.unicode.Unicode.{Unicode}
use Rattle.esc_filter.specs.declared.unicode.Unicode.TheVariants.{Keep}
use Rattle.esc_screen.specs.Grids.{Size as Screen}
use Rattle.esc_terminal.specs.Fed.{for_log}
use Rattle.line_collapse.specs.declared.window.Window.{Window}

abbrev pub Size : Type 0
Size = Window

-- so many rows and columns, and this is written of characters that deceive; its text is counted
abbrev pub window_of : ℕ → ℕ → Unicode → Size
window_of rows columns u = record {
  rows = min rows 0xffff;
  columns = min columns 0xffff;
  characters = u;
  counts = true;
}

-- where these are written as they are, and nothing is counted
abbrev pub window_size : ℕ → ℕ → Size
window_size rows columns = record (window_of rows columns Keep) { counts = false }

-- a terminal's screen for a log, of one row and column at least
abbrev pub screen_of : Size → Screen
screen_of z = for_log (max z.columns 1) (max z.rows 1)
