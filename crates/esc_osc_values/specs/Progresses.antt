-- The progress of a task: how it is read and written.
use Rattle.std.specs.Prelude.{ℕ, nat_le, nat_eq, if◌then◌else◌, List, [], ◌∷◌, ◌++◌, codes, Option, Some, None}
use Rattle.std.specs.Cmp.Lexicographic.{pointwise}
use Rattle.std.specs.Fmt.{decimal}
use Rattle.std.specs.Option.{unwrap_or}
use Rattle.esc_values.specs.Scalars.{number_of}
use Rattle.esc_osc_values.specs.declared.progress.Progress.{Progress}
use Rattle.esc_osc_values.specs.declared.progress.Progress.TheVariants as progress

-- a number, held to 100
abbrev pub capped_at_100 : ℕ → ℕ
capped_at_100 n = if nat_le n 100 then n else 100

-- the first part as a percentage: absent or unreadable is 0, more than 100 is 100
abbrev pub percent_of : List (List ℕ) → ℕ
percent_of [] = 0
percent_of (p ∷ ps) = capped_at_100 (unwrap_or (number_of 8 p) 0)

-- the progress that a state names, with the parts after it
abbrev pub state_of : List ℕ → List (List ℕ) → Option Progress
state_of s more = if pointwise nat_eq s (codes "0") then Some progress.None
    else if pointwise nat_eq s (codes "1") then Some (progress.SetPercentage (percent_of more))
    else if pointwise nat_eq s (codes "2") then Some (progress.SetError (percent_of more))
    else if pointwise nat_eq s (codes "3") then Some progress.SetIndeterminate
    else if pointwise nat_eq s (codes "4") then Some progress.Paused
    else None

-- the progress after a first part `4`
abbrev pub progress_of : List (List ℕ) → Option Progress
progress_of (a ∷ s ∷ more) = if pointwise nat_eq a (codes "4") then state_of s more else None
progress_of args = None

-- the text of the progress, after the code
abbrev pub progress_text : Progress → List ℕ
progress_text progress.None = codes "4;0"
progress_text (progress.SetPercentage n) = codes "4;1;" ++ decimal n
progress_text (progress.SetError n) = codes "4;2;" ++ decimal n
progress_text progress.SetIndeterminate = codes "4;3"
progress_text progress.Paused = codes "4;4"
