use Rattle.std.proofs.Common.{◌≡◌, take, map, length}
use Rattle.heapless_parser.specs.Emitted.{param_of}
use Rattle.heapless_parser.proofs.csi_params.put_csi_params.Given as goal

abbrev pub invariant-loop-i : goal.invariant-loop-i
invariant-loop-i l = record {
  room : length l.csi_params ≡ length l.initial.csi_params;
  shown : map param_of (take l.i l.csi_params) ≡ take l.i l.params;
}
