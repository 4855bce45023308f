-- A screen that takes a stream in chunks.
use Rattle.std.specs.Prelude.{ℕ, ◌≡◌, List, [], Option, None, Some, get_or, is_some, length, map, max}
use Rattle.std.specs.Global.{Global}
use Rattle.esc_screen.specs.Grids.{Size}
use Rattle.esc_terminal.specs.Fed.{HasConsumed, Stands, TakesIn, screen_size}
use Rattle.esc_terminal.specs.Resized.{StandsWith}
use Rattle.esc_terminal.specs.Rows.{row_text}
use Rattle.esc_terminal.specs.Streams.{Shown, shown_of}
use Rattle.esc_calls.specs.CellRows.{cell_row}
use Rattle.esc_calls.specs.InChunks.{Keeps}
use Rattle.esc_calls.specs.Kept.{screen_in}
use Rattle.esc_calls.specs.declared.cell_row.CellRow.{CellRow}
use Rattle.esc_calls.specs.declared.in_chunks.InChunks.{InChunks}
use Rattle.esc_calls.specs.declared.screen_row.ScreenRow.{ScreenRow}

-- it has begun, is of this size, and was fed these bytes
abbrev pub ScreenHasConsumed : Size → List ℕ → InChunks → Type 0
ScreenHasConsumed z s = Keeps screen_in (λ x. HasConsumed {A = Global} z s x.terminal)

-- it was fed b after s, and has the requests that b makes
abbrev pub ScreenTakes : Size → List ℕ → List ℕ → InChunks → Type 0
ScreenTakes z s b = Keeps screen_in (λ x. TakesIn {A = Global} z s b x.terminal)

-- it has begun, is of this size, has read these bytes, and shows this
abbrev pub ScreenStands : Size → Shown → List ℕ → InChunks → Type 0
ScreenStands z x s = Keeps screen_in (λ p. Stands {A = Global} z x s p.terminal)

-- it has so many columns and rows then, but at least one
abbrev pub ScreenStandsWith : Size → Shown → List ℕ → ℕ → ℕ → InChunks → Type 0
ScreenStandsWith z x s columns rows = Keeps screen_in
    (λ p. StandsWith {A = Global} z x s (max columns 1) (max rows 1) p.terminal)

-- so many columns and rows, but at least one
abbrev pub size_for : ℕ → ℕ → Size
size_for columns rows = screen_size (max columns 1) (max rows 1)

-- the screen of a terminal of this size for a stream
abbrev pub shown_by : Size → List ℕ → Shown
shown_by = shown_of Global

-- the cells of a row, from 0 on, and its text
abbrev pub cells_shown : Shown → ℕ → List CellRow
cells_shown t n = map (cell_row t.known) (get_or t.grid.rows n [])

abbrev pub text_shown : Shown → ℕ → List ℕ
text_shown t n = row_text (get_or t.grid.rows n [])

-- the title, if there is one
abbrev pub text_or_none : Option (List ℕ) → List ℕ
text_or_none None = []
text_or_none (Some t) = t

abbrev pub title_shown : Shown → List ℕ
title_shown t = text_or_none t.names.title

-- and the name of the icon
abbrev pub icon_name_shown : Shown → List ℕ
icon_name_shown t = text_or_none t.names.icon_name

-- the numbers of the screen
pub record Tells (z : Size) (t : Shown) (r : ScreenRow) : Type 0 where
  pub columns : r.columns ≡ z.columns
  pub rows : r.rows ≡ z.rows
  pub cursor_row : r.cursor_row ≡ t.grid.cursor.row
  pub cursor_column : r.cursor_column ≡ t.grid.cursor.column
  pub pending : r.pending ≡ t.grid.cursor.pending
  pub shown : r.shown ≡ t.grid.modes.shows_cursor
  pub alternate : r.alternate ≡ t.grid.alternate
  pub reversed : r.reversed ≡ t.grid.modes.reversed
  pub synchronized : r.synchronized ≡ t.grid.modes.synchronized
  pub has_title : r.has_title ≡ is_some t.names.title
  pub links : r.links ≡ length t.known.links
