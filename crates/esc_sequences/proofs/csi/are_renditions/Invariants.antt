use Rattle.std.proofs.Common.{◌≡◌, ◌≤◌, length, is_some}
use Rattle.std.specs.List.{slice_split}
use Rattle.esc_sequences.specs.Csis.{is_separator, renditions}
use Rattle.esc_sequences.proofs.csi.are_renditions.Given as goal

-- the rest decides
abbrev pub invariant-items : goal.invariant-items
invariant-items l =
    (length l.left ≤ length l.fn.params)
    × (is_some (renditions (slice_split is_separator l.fn.params))
    ≡ is_some (renditions (slice_split is_separator l.left)))

abbrev pub decreases-items : goal.decreases-items
decreases-items l = length l.left
