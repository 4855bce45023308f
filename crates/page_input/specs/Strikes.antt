-- Characters that are written over others.
use Rattle.std.specs.Prelude.{ℕ, List, codes, if◌then◌else◌}
use Rattle.std.specs.Str.{bytes_eq}
use Rattle.page_input.specs.declared.emphasis.Strike.{Strike}
use Rattle.page_input.specs.declared.emphasis.Strike.TheVariants.{Bold, Line, Lined, Other}

-- a second character in the place of a first, both as bytes: the same one makes it bold, and `_`
-- underlines a character before it or after it (nroff and man write both; less and ul read them)
abbrev pub strike_of : List ℕ → List ℕ → Strike
strike_of first second =
    if bytes_eq first second then Bold
    else if bytes_eq second (codes "_") then Line
    else if bytes_eq first (codes "_") then Lined
    else Other
