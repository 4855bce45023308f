use Rattle.std.proofs.Common.{◌≡◌, ◌<◌, ◌^◌, drop}
use Rattle.control_functions.specs.Rows.{base_256}
use Rattle.control_functions.specs.Functions.{marks}
use Rattle.control_functions.proofs.marks.packed_marks.Given as goal

-- the rest, packed after the marks that were read, is the whole
abbrev pub invariant-loop-entry : goal.invariant-loop-entry
invariant-loop-entry l =
    (base_256 1 (marks l.csi_params) ≡ base_256 l.packed (marks (drop l.entry-index l.csi_params)))
    × (l.packed < 2 ^ 24)
