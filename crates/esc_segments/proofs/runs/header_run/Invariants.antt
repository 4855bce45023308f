use Rattle.std.proofs.Common.{◌-◌, ◌+◌, ◌≤◌, ◌≡◌, length, drop}
use Rattle.std.specs.List.{prefix_len}
use Rattle.esc_frame.specs.Classes.{class_of, in_csi}
use Rattle.esc_segments.proofs.runs.header_run.Given as goal

abbrev pub invariant-loop-end : goal.invariant-loop-end
invariant-loop-end l =
    (l.end ≤ length l.bytes)
    × (prefix_len (λ b. in_csi (class_of b)) l.bytes ≡ l.end + prefix_len (λ b.
    in_csi (class_of b)) (drop l.end l.bytes))

abbrev pub decreases-loop-end : goal.decreases-loop-end
decreases-loop-end l = length l.bytes - l.end
