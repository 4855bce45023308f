use Rattle.std.proofs.Common.{ℕ, Option, ◌-◌, ◌≤◌, ◌≡◌, true, length, take}
use Rattle.std.specs.List.{list_all}
use Rattle.esc_frame.specs.Bodies.{is_digit, capped_at_i64, value_after}
use Rattle.esc_frame.specs.Machine.Keeps.{IsNumber, number_at}
use Rattle.esc_frame.proofs.unfinished.csi_params.Params.push_digits.Given as goal

abbrev pub invariant-loop-end : goal.invariant-loop-end
invariant-loop-end l =
    (1 ≤ l.end)
    × (l.end ≤ length l.bytes)
    × (l.number ≤ 0x7fff_ffff_ffff_ffff)
    × (list_all is_digit (take l.end l.bytes) ≡ true)
    × ((o : Option ℕ) → IsNumber l.self o
    → l.number ≡ capped_at_i64 (value_after (number_at o) (take l.end l.bytes)))

abbrev pub decreases-loop-end : goal.decreases-loop-end
decreases-loop-end l = length l.bytes - l.end
