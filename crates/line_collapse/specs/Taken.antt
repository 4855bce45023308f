-- Rows that are taken, and text that is counted.
use Rattle.std.specs.Prelude.{ℕ, ◌≡◌, List, [], ◌∷◌, ◌++◌, IfSome, is_some, Option}
use Rattle.line_collapse.specs.Tallies.{HasTallied}
use Rattle.line_collapse.specs.declared.tally.Tally.{Tally}
use Rattle.esc_screen.specs.declared.cell.Cell.{Cell}
use Rattle.esc_terminal.specs.Scrolled.{Row}
use Rattle.screen_lines.specs.Written.{WritesRow}
use Rattle.line_collapse.specs.Windows.{Size, screen_of}
use Rattle.line_collapse.specs.declared.taking.Taking.{Taking}

-- where there is a tally, of a screen of so many rows and columns, it counted what this stream
-- prints, and these rows
abbrev pub IsCounted : {A : Type 0} → ℕ → ℕ → List ℕ → List (List Cell) → Option (Tally A) → Type 0
IsCounted m n s rs o = IfSome o (HasTallied m n s rs)

-- there is one exactly if the text of this screen is counted, and it did
abbrev pub IsCountedBy : {A : Type 0} → Size → List ℕ → List (List Cell) → Option (Tally A)
    → Type 0
IsCountedBy z s rs o = (is_some o ≡ z.counts)
    × IsCounted (screen_of z).rows (screen_of z).columns s rs o

-- rows more are counted
abbrev pub KeepsAll : {A : Type 0} → Option (Tally A) → List (List Cell) → Option (Tally A)
    → Type 0
KeepsAll o xs p = (is_some p ≡ is_some o)
    × ((m n : ℕ) (s : List ℕ) (rs : List (List Cell)) → IsCounted m n s rs o
    → IsCounted m n s (rs ++ xs) p)

abbrev pub Keeps : {A : Type 0} → Option (Tally A) → List Cell → Option (Tally A) → Type 0
Keeps o x p = KeepsAll o (x ∷ []) p

-- and so is text more
abbrev pub Prints : {A : Type 0} → Option (Tally A) → List ℕ → Option (Tally A) → Type 0
Prints o b p = (is_some p ≡ is_some o)
    × ((m n : ℕ) (s : List ℕ) (rs : List (List Cell)) → IsCounted m n s rs o
    → IsCounted m n (s ++ b) rs p)

-- a row is written and counted
abbrev pub TakesRow : {A : Type 0} → Taking A → Row → Taking A → Type 0
TakesRow p r q = WritesRow p.lines r q.lines × Keeps p.tally r.0 q.tally
