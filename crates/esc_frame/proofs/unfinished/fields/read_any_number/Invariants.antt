use Rattle.std.proofs.Common.{◌-◌, ◌≤◌, ◌≡◌, true, length, take}
use Rattle.std.specs.List.{list_all}
use Rattle.esc_frame.specs.Bodies.{is_digit, capped_at_i64, value_after}
use Rattle.esc_frame.proofs.unfinished.fields.read_any_number.Given as goal

abbrev pub invariant-loop-end : goal.invariant-loop-end
invariant-loop-end l =
    (1 ≤ l.end)
    × (l.end ≤ length l.rest)
    × (l.number ≤ 0x7fff_ffff_ffff_ffff)
    × (list_all is_digit (take l.end l.rest) ≡ true)
    × (l.number ≡ capped_at_i64 (value_after 0 (take l.end l.rest)))

abbrev pub decreases-loop-end : goal.decreases-loop-end
decreases-loop-end l = length l.rest - l.end
