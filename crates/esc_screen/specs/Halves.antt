-- That no half of a wide character stands alone.
use Rattle.std.specs.Prelude.{◌≡◌, ◌≤◌, Bool, true, false, List, [], ◌∷◌}
use Rattle.esc_screen.specs.Cells.{is_rest}
use Rattle.esc_screen.specs.Grids.{Grid, Size, first_grid}
use Rattle.esc_screen.specs.Sound.{IsSound}
use Rattle.esc_screen.specs.Steps.{grid_from}
use Rattle.esc_screen.specs.declared.cell.Cell.{Cell}
use Rattle.esc_screen.specs.declared.content.Content.{Content}
use Rattle.esc_screen.specs.declared.content.Content.TheVariants as content
use Rattle.esc_screen.specs.declared.step.Step.{Step}

abbrev pub is_wide_content : Content → Bool
is_wide_content (content.Wide c m) = true
is_wide_content _ = false

-- whether it has the first column of a character of two
abbrev pub is_wide : Cell → Bool
is_wide x = is_wide_content x.content

-- Cells, after the first column of a character of two or not: the second column of one comes next
-- after each first one, and nowhere else.
abbrev pub GoOn : Bool → List Cell → Type 0
GoOn w [] = w ≡ false
GoOn w (x ∷ xs) = (is_rest x ≡ w) × GoOn (is_wide x) xs

-- a row in which no half stands alone
abbrev pub IsWhole : List Cell → Type 0
IsWhole xs = GoOn false xs

abbrev pub AreWhole : List (List Cell) → Type 0
AreWhole [] = 0 ≤ 0
AreWhole (x ∷ xs) = IsWhole x × AreWhole xs

-- a grid with such rows on both screens
pub record HasWholeRows (g : Grid) : Type 0 where
  pub rows : AreWhole g.rows
  pub other : AreWhole g.other

-- no step breaks that
abbrev pub StaysWhole : Type 0
StaysWhole = (s : Size) (g : Grid) (xs : List Step) → IsSound s g → HasWholeRows g
    → HasWholeRows (grid_from s g xs)

-- and it holds at first
abbrev pub BeginsWhole : Type 0
BeginsWhole = (s : Size) → HasWholeRows (first_grid s)
