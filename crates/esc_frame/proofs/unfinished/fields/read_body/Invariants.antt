use Rattle.std.proofs.Common.{◌-◌, ◌≤◌, length, take, map}
use Rattle.esc_frame.specs.Machine.Shorts.{IsPrefix}
use Rattle.esc_frame.proofs.unfinished.fields.read_body.Given as goal

abbrev pub invariant-loop-at : goal.invariant-loop-at
invariant-loop-at g l = (l.at ≤ length l.rest) × (l.count ≤ length l.csi_params)
    × (length l.csi_params ≤ 256)
    × IsPrefix (map g.E.Param.param (take l.count l.csi_params)) (take l.at l.rest)

abbrev pub decreases-loop-at : goal.decreases-loop-at
decreases-loop-at g l = length l.rest - l.at
