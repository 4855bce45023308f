-- The rows that are scrolled off a screen.
use Rattle.std.specs.Prelude.{ℕ, ◌+◌, ◌≡◌, ◌==◌, min, nat_lt, Bool, true, ◌&&◌, not, if◌then◌else◌, List, [], ◌∷◌, ◌++◌, take, drop, map, replicate}
use Rattle.esc_screen.specs.Cells.{cleared_cells}
use Rattle.esc_screen.specs.Grids.{Grid, Size, rows_up}
use Rattle.esc_screen.specs.Printing.{before, has_room, row_gone_on}
use Rattle.esc_screen.specs.Steps.{grid_by, grid_from}
use Rattle.esc_screen.specs.declared.cell.Cell.{Cell}
use Rattle.esc_screen.specs.declared.change.Change.{Change}
use Rattle.esc_screen.specs.declared.change.Change.TheVariants as change
use Rattle.esc_screen.specs.declared.content.Content.{Content}
use Rattle.esc_screen.specs.declared.content.Content.TheVariants as content
use Rattle.esc_screen.specs.declared.motion.Motion.TheVariants as motion
use Rattle.esc_screen.specs.declared.step.Step.{Step}
use Rattle.esc_screen.specs.declared.step.Step.TheVariants as step

-- the rows of the main screen, whether it is seen or not
abbrev pub main_rows : Grid → List (List Cell)
main_rows g = if g.alternate then g.other else g.rows

-- ---- how many rows go off, the first ones of the screen

-- whether a row that moves up out of the margins goes off the screen: it is the main one that is
-- seen, and the first row is within the margins
abbrev pub is_open : Grid → Bool
is_open g = not g.alternate && g.top == 0

-- where the rows within the margins move up by so many
abbrev pub gone_up : ℕ → Grid → ℕ
gone_up n g = if is_open g then min n g.bottom else 0

-- where a line is fed
abbrev pub gone_fed : Grid → ℕ
gone_fed g = if g.cursor.row + 1 == g.bottom then gone_up 1 g else 0

-- where a wrap that is pending is done
abbrev pub gone_wrapped : Grid → ℕ
gone_wrapped g = if g.cursor.pending && g.modes.wraps then gone_fed g else 0

-- where a character of two columns comes
abbrev pub gone_wide : Size → Grid → ℕ
gone_wide s g = if has_room s g
    then if nat_lt (g.cursor.column + 1) s.columns then gone_wrapped g else gone_fed g
    else 0

abbrev pub gone_by_change : Grid → Change → ℕ
gone_by_change g change.Index = gone_fed g
gone_by_change g change.LineFeed = gone_fed g
gone_by_change g change.FormFeed = gone_fed g
gone_by_change g change.NextLine = gone_fed g
gone_by_change g (change.ScrollUp n) = gone_up n g
gone_by_change g _ = 0

-- by a step; REP is taken apart first
abbrev pub gone_by : Size → Grid → Step → ℕ
gone_by s g (step.Print c) = gone_wrapped g
gone_by s g (step.PrintWide c) = gone_wide s g
gone_by s g (step.Edit e) = gone_by_change g e
gone_by s g _ = 0

-- ---- which rows

-- the row of the cursor, where a wrap that is pending is done, goes on in the next one
abbrev pub joined_narrow : Grid → Grid
joined_narrow g = if g.cursor.pending && g.modes.wraps then row_gone_on g else g

abbrev pub joined_wide : Size → Grid → Grid
joined_wide s g = if has_room s g
    then if nat_lt (g.cursor.column + 1) s.columns then joined_narrow g else row_gone_on g
    else g

-- the grid that a step takes rows off: that before it, where it says that a row goes on
abbrev pub joined_by : Size → Grid → Step → Grid
joined_by s g (step.Print c) = joined_narrow g
joined_by s g (step.PrintWide c) = joined_wide s g
joined_by s g _ = g

-- the step of REP, by the content before the cursor
abbrev pub printing : Content → Step
printing (content.Narrow c m) = step.Print c
printing (content.Wide c m) = step.PrintWide c
printing _ = step.Nothing

-- REP is so many characters, one after another, and any other step is itself
abbrev pub parts_of : Size → Grid → Step → List Step
parts_of s g (step.Repeat n) = replicate (min n s.columns) (printing (before g))
parts_of s g x = x ∷ []

-- by steps none of which is REP: each sees its rows go before all else
abbrev pub off_each : Size → Grid → List Step → List (List Cell)
off_each s g [] = []
off_each s g (x ∷ xs) =
    take (gone_by s g x) (joined_by s g x).rows ++ off_each s (grid_by s g x) xs

-- by a step
abbrev pub off_by : Size → Grid → Step → List (List Cell)
off_by s g x = off_each s g (parts_of s g x)

-- by steps, one after another
abbrev pub off_from : Size → Grid → List Step → List (List Cell)
off_from s g [] = []
off_from s g (x ∷ xs) = off_by s g x ++ off_from s (grid_by s g x) xs

-- ---- laws

-- As rows move up, those that go off and those that are left are, in order, those that were there:
-- nothing is lost, and blank ones come after the last that moved.
abbrev pub LosesNothing : Type 0
LosesNothing = (n : ℕ) (g : Grid) → is_open g ≡ true
    → take (gone_up n g) g.rows ++ (rows_up n g.top g.bottom g).rows
    ≡ take g.bottom g.rows
    ++ (map (cleared_cells g.cursor.erased) (take (gone_up n g) g.rows) ++ drop g.bottom g.rows)

-- steps in two chunks scroll off the rows of the first chunk, and then those of the second
abbrev pub GoesOffInChunks : Type 0
GoesOffInChunks = (s : Size) (g : Grid) (xs ys : List Step)
    → off_from s g (xs ++ ys) ≡ off_from s g xs ++ off_from s (grid_from s g xs) ys

-- where a line feed returns, it does what CR and LF do
abbrev pub ReturnsAlone : Type 0
ReturnsAlone = (s : Size) (g : Grid) → s.returns ≡ true
    → (grid_from s g (step.Move motion.RowStart ∷ step.Edit change.LineFeed ∷ [])
    ≡ grid_by s g (step.Edit change.LineFeed))
    × (off_from s g (step.Move motion.RowStart ∷ step.Edit change.LineFeed ∷ [])
    ≡ off_from s g (step.Edit change.LineFeed ∷ []))

-- a row is said to go on once
abbrev pub JoinsOnce : Type 0
JoinsOnce = (s : Size) (g : Grid) (x : Step) → grid_by s (joined_by s g x) x ≡ grid_by s g x

-- REP does what the steps do that it is taken apart into
abbrev pub IsInParts : Type 0
IsInParts = (s : Size) (g : Grid) (x : Step) → grid_by s g x ≡ grid_from s g (parts_of s g x)
