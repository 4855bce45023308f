use Rattle.std.proofs.Common.{ℕ, List, ◌-◌, ◌≤◌, ◌≡◌, ◌++◌, true, length, take}
use Rattle.std.specs.List.{list_all}
use Rattle.esc_frame.specs.Machine.Keeps.{KeepsBody}
use Rattle.esc_frame.specs.Scans.{is_body_byte}
use Rattle.esc_frame.proofs.machine.escapes.push_run.Given as goal

abbrev pub invariant-loop-end : goal.invariant-loop-end
invariant-loop-end l =
    (l.end ≤ length l.rest) × (list_all is_body_byte (take l.end l.rest) ≡ true) ×
    ((x : List ℕ) → KeepsBody l.initial.body x → KeepsBody l.body (x ++ take l.end l.rest))

abbrev pub decreases-loop-end : goal.decreases-loop-end
decreases-loop-end l = length l.rest - l.end
