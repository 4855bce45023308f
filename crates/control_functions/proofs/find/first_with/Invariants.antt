use Rattle.std.proofs.Common.{◌≡◌, drop}
use Rattle.control_functions.specs.Rows.{first_keyed}
use Rattle.control_functions.proofs.find.first_with.Given as goal

-- the rest decides
abbrev pub invariant-loop-row : goal.invariant-loop-row
invariant-loop-row g l =
    first_keyed g.R.Keyed.has_key g.R.Keyed.is_of l.rows l.key
    ≡ first_keyed g.R.Keyed.has_key g.R.Keyed.is_of (drop l.row-index l.rows) l.key
