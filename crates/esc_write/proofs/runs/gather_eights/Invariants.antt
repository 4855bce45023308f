use Rattle.std.proofs.Common.{◌≡◌, ◌++◌, length, map}
use Rattle.esc_actions.specs.Values.{print, value_of}
use Rattle.esc_write.proofs.runs.gather_eights.Given as goal

abbrev pub invariant-eights : goal.invariant-eights
invariant-eights g l = map value_of l.actions ≡ map print l.run ++ map value_of l.rest

abbrev pub decreases-eights : goal.decreases-eights
decreases-eights g l = length l.rest
