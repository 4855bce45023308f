use Rattle.std.proofs.Common.{length, ◌-◌, ◌≡◌, ◌≤◌, ℕ, List, take, drop, ◌++◌}
use Rattle.std.specs.Option.{option_map}
use Rattle.esc_values.specs.Cuts.{cut_at}
use Rattle.esc_values.proofs.cut.cut.Given as goal

abbrev pub invariant-loop-index : goal.invariant-loop-index
invariant-loop-index l =
    (l.index ≤ length l.bytes)
    × (cut_at l.at l.bytes ≡ option_map (λ (p : List ℕ × List ℕ). (
      take l.index l.bytes ++ p.0,
      p.1,
    )) (cut_at l.at (drop l.index l.bytes)))

abbrev pub decreases-loop-index : goal.decreases-loop-index
decreases-loop-index l = length l.bytes - l.index
