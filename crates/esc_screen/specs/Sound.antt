-- The invariants of every grid of a screen.
use Rattle.std.specs.Prelude.{ℕ, ◌≡◌, ◌<◌, ◌≤◌, List, [], ◌∷◌, ◌++◌, length}
use Rattle.esc_screen.specs.Grids.{Grid, Size, first_grid}
use Rattle.esc_screen.specs.Steps.{grid_from}
use Rattle.esc_screen.specs.declared.cell.Cell.{Cell}
use Rattle.esc_screen.specs.declared.cursor.Cursor.{Cursor}
use Rattle.esc_screen.specs.declared.step.Step.{Step}

-- each row has so many cells
abbrev pub AreWide : ℕ → List (List Cell) → Type 0
AreWide n [] = 0 ≤ 0
AreWide n (x ∷ xs) = (length x ≡ n) × AreWide n xs

-- there are as many rows as the screen has, each with as many cells
pub record IsFull (s : Size) (rs : List (List Cell)) : Type 0 where
  pub height : length rs ≡ s.rows
  pub width : AreWide s.columns rs

-- a cursor is on the screen
pub record IsOn (s : Size) (c : Cursor) : Type 0 where
  pub row : c.row < s.rows
  pub column : c.column < s.columns

pub record IsSound (s : Size) (g : Grid) : Type 0 where
  pub rows : IsFull s g.rows
  pub other : IsFull s g.other
  pub cursor : IsOn s g.cursor
  pub saved : IsOn s g.saved
  pub other_saved : IsOn s g.other_saved
  pub margins : (g.top < g.bottom) × (g.bottom ≤ s.rows)
  pub tabs : length g.tabs ≡ s.columns

-- no step breaks that
abbrev pub StaysSound : Type 0
StaysSound = (s : Size) (g : Grid) (xs : List Step) → IsSound s g → IsSound s (grid_from s g xs)

-- and it holds at first
abbrev pub BeginsSound : Type 0
BeginsSound = (s : Size) → 0 < s.rows → 0 < s.columns → IsSound s (first_grid s)

-- steps in two chunks are those of the first and then of the second
abbrev pub GoesInChunks : Type 0
GoesInChunks = (s : Size) (g : Grid) (xs ys : List Step)
    → grid_from s g (xs ++ ys) ≡ grid_from s (grid_from s g xs) ys
