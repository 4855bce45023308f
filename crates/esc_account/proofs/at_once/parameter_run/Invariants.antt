use Rattle.std.proofs.Common.{◌≡◌, ◌≤◌, ◌-◌, true, length, take}
use Rattle.std.specs.List.{list_all}
use Rattle.esc_frame.specs.Bodies.{is_csi_parameter}
use Rattle.esc_account.proofs.at_once.parameter_run.Given as goal

abbrev pub invariant-loop-at : goal.invariant-loop-at
invariant-loop-at l = record {
  within : l.at ≤ length l.bytes;
  each : list_all is_csi_parameter (take l.at l.bytes) ≡ true;
}

abbrev pub decreases-loop-at : goal.decreases-loop-at
decreases-loop-at l = length l.bytes - l.at
