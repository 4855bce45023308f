use Rattle.std.proofs.Common.{◌≡◌, take, map}
use Rattle.heapless_parser.specs.Emitted.{param_of}
use Rattle.heapless_parser.proofs.csi_params.list_of.Given as goal

abbrev pub invariant-loop-entry : goal.invariant-loop-entry
invariant-loop-entry l = l.items ≡ map param_of (take l.entry-index l.csi_params)
