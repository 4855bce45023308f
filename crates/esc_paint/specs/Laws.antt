-- The facts about a screen that is painted.
use Rattle.std.specs.Prelude.{ℕ, ◌≡◌, ◌+◌, ◌*◌, ◌≤◌, ◌++◌, List, [], ◌∷◌, length, map}
use Rattle.esc_frame.specs.Stream.{IsAtGround}
use Rattle.esc_style.specs.Looks.{plain_look}
use Rattle.esc_style.specs.declared.look.Look.{Look}
use Rattle.esc_screen.specs.Grids.{Grid, Size}
use Rattle.esc_screen.specs.Halves.{AreWhole, HasWholeRows}
use Rattle.esc_screen.specs.Sound.{IsSound}
use Rattle.esc_screen.specs.declared.cell.Cell.{Cell}
use Rattle.esc_screen.specs.declared.content.Content.{Content}
use Rattle.esc_terminal.specs.Streams.{Shown, shown_after, shown_of, values_of}
use Rattle.esc_paint.specs.Drawn.{AllDrawn}
use Rattle.esc_paint.specs.Differences.{difference, differences, last_grid}
use Rattle.esc_paint.specs.Painting.{is_waiting, painting_text}

-- the contents of the cells of rows
abbrev pub contents_of : List (List Cell) → List (List Content)
contents_of rows = map (map (λ x. x.content)) rows

-- each cell looks plain
abbrev pub LookPlain : (ℕ → Look) → List Cell → Type 0
LookPlain f [] = Unit {0}
LookPlain f (x ∷ xs) = (f x.look ≡ plain_look) × LookPlain f xs

abbrev pub AllLookPlain : (ℕ → Look) → List (List Cell) → Type 0
AllLookPlain f [] = Unit {0}
AllLookPlain f (xs ∷ xss) = LookPlain f xs × AllLookPlain f xss

-- A grid of a screen that has no more rows and columns than 16 bits count: it is one that a screen
-- can have, no half of a wide character stands alone in it, the characters of its cells have the
-- width that they take, and look plain.
pub record IsPaintable (f : ℕ → Look) (s : Size) (g : Grid) : Type 0 where
  pub size : (s.rows ≤ 65536) × (s.columns ≤ 65536)
  pub sound : IsSound s g
  pub whole : AreWhole g.rows
  pub drawn : AllDrawn g.rows
  pub plain : AllLookPlain f g.rows

-- the cells of two grids have the same contents, and the cursor is in the same place; a wrap is
-- pending in the second one, if one is in the first after a character
pub record ShowsSame (s : Size) (g h : Grid) : Type 0 where
  pub contents : contents_of h.rows ≡ contents_of g.rows
  pub row : h.cursor.row ≡ g.cursor.row
  pub column : h.cursor.column ≡ g.cursor.column
  pub pending : h.cursor.pending ≡ is_waiting s g

-- the text that paints a grid makes any terminal of its size show it, whatever that shows
abbrev pub Paints : Type 0 → Type 0
Paints A = (f : ℕ → Look) (s : Size) (t : Shown) (g : Grid) → IsSound s t.grid
    → IsPaintable f s g
    → ShowsSame s g (shown_after s t (values_of A (painting_text f s g))).grid

-- and so a new one
abbrev pub PaintsNew : Type 0 → Type 0
PaintsNew A = (f : ℕ → Look) (s : Size) (g : Grid) → IsPaintable f s g
    → ShowsSame s g (shown_of A s (painting_text f s g)).grid

-- and one that was fed a stream with nothing unfinished
abbrev pub PaintsOver : Type 0 → Type 0
PaintsOver A = (f : ℕ → Look) (s : Size) (b : List ℕ) (g : Grid) → IsAtGround b
    → IsPaintable f s g
    → ShowsSame s g (shown_of A s (b ++ painting_text f s g)).grid

-- ---- differences

-- the text that leads from one grid to another of its size makes any terminal that shows the first
-- one show the second
abbrev pub Leads : Type 0 → Type 0
Leads A = (f k : ℕ → Look) (s : Size) (t : Shown) (g h : Grid) → IsSound s t.grid
    → AreWhole t.grid.rows → ShowsSame s g t.grid → IsPaintable k s h
    → ShowsSame s h (shown_after s t (values_of A (difference f k s s g h))).grid

-- so it follows a series of screens, and at last shows the last one
abbrev pub ArePaintable : Size → List ((ℕ → Look) × Grid) → Type 0
ArePaintable s [] = Unit {0}
ArePaintable s (h ∷ hs) = IsPaintable h.0 s h.1 × ArePaintable s hs

abbrev pub LeadsOn : Type 0 → Type 0
LeadsOn A = (f : ℕ → Look) (s : Size) (t : Shown) (g : Grid) (hs : List ((ℕ → Look) × Grid))
    → IsSound s t.grid → HasWholeRows t.grid → ShowsSame s g t.grid → ArePaintable s hs
    → ShowsSame s (last_grid g hs) (shown_after s t (values_of A (differences f s g hs))).grid

-- a terminal that was fed a stream with nothing unfinished is led so
abbrev pub LeadsOver : Type 0 → Type 0
LeadsOver A = (f k : ℕ → Look) (s : Size) (b : List ℕ) (g h : Grid) → IsAtGround b
    → ShowsSame s g (shown_of A s b).grid → IsPaintable k s h
    → ShowsSame s h (shown_of A s (b ++ difference f k s s g h)).grid

-- no text leads from a grid to itself
abbrev pub SaysNothing : Type 0
SaysNothing = (f : ℕ → Look) (s : Size) (g : Grid) → difference f f s s g g ≡ []

-- a difference, and so a painting, has at most 14 bytes for each of five parts of a cell, two of a
-- row, and as many for the row of the cursor
abbrev pub IsBounded : Type 0
IsBounded = (f k : ℕ → Look) (q s : Size) (g h : Grid) → IsPaintable k s h
    → length (difference f k q s g h) ≤ 14 * ((s.rows + 1) * (5 * s.columns + 2) + 2)
