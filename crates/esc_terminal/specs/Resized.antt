-- A terminal of another size.
use Rattle.std.specs.Prelude.{ℕ, ◌≡◌, List, take}
use Rattle.std.specs.List.{FoldsTo}
use Rattle.esc_screen.specs.Grids.{Size}
use Rattle.esc_screen.specs.Resized.{Resizes, leaving_rows, resized_grid, size_with}
use Rattle.esc_screen.specs.Scrolled.{main_rows}
use Rattle.esc_terminal.specs.Fed.{Stands, known_in, names_in, requests_in, shown_in}
use Rattle.esc_terminal.specs.Scrolled.{Row, with_known}
use Rattle.esc_terminal.specs.Streams.{Shown}
use Rattle.esc_terminal.specs.declared.keeping.Keeping.{Keeping}
use Rattle.esc_terminal.specs.declared.state.State.{State}
use Rattle.esc_terminal.specs.declared.terminal.Terminal.{Terminal}

-- a screen with looks and names, after a change from one size to another
abbrev pub resized_shown : Size → Size → Shown → Shown
resized_shown y z x = record x { grid = resized_grid y z x.grid }

-- the rows that leave the main screen at the top, for so many rows
abbrev pub off_by_size : ℕ → Shown → List Row
off_by_size m x = with_known x.known (take (leaving_rows m x.grid) (main_rows x.grid))

-- ---- the state

-- the screen got so many rows and columns, and all else is as before
pub record GetsSize {A : Type 0} (p : State A) (m n : ℕ) (q : State A) : Type 0 where
  pub screen : Resizes p.screen m n q.screen
  pub known : known_in q ≡ known_in p
  pub names : names_in q ≡ names_in p
  pub requests : requests_in q ≡ requests_in p

-- so does a screen that hands out the rows that leave
abbrev pub KeepsSize : {R A : Type 0} → (R → Row → R → Type 0) → Keeping R A → ℕ → ℕ
    → Keeping R A → Type 0
KeepsSize takes p m n q = GetsSize p.state m n q.state
    × FoldsTo takes p.rows (off_by_size m (shown_in p.state)) q.rows

-- ---- terminals

-- it has read no more, and shows the same with so many columns and rows
abbrev pub StandsWith : {A : Type 0} → Size → Shown → List ℕ → ℕ → ℕ → Terminal A → Type 0
StandsWith z x s columns rows t =
    Stands (size_with rows columns z) (resized_shown z (size_with rows columns z) x) s t
