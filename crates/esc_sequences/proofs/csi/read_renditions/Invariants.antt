use Rattle.std.proofs.Common.{◌≡◌, ◌≤◌, ◌++◌, map, length}
use Rattle.std.specs.List.{slice_split}
use Rattle.std.specs.Option.{option_map}
use Rattle.esc_sequences.specs.Csis.{csi_value, is_separator, renditions}
use Rattle.esc_sequences.proofs.csi.read_renditions.Given as goal

-- the rest, after the items that were read, is the whole
abbrev pub invariant-items : goal.invariant-items
invariant-items g l =
    (length l.rest ≤ length l.fn.params)
    × (renditions (slice_split is_separator l.fn.params) ≡ option_map (λ more.
    map csi_value l.read.items ++ more)
    (renditions (slice_split is_separator l.rest)))

abbrev pub decreases-items : goal.decreases-items
decreases-items g l = length l.rest
