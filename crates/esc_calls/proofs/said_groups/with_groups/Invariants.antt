use Rattle.std.proofs.Common.{◌≡◌, ℕ, ◌/◌, ◌^◌, false, get_or}
use Rattle.esc_calls.proofs.Bits.{chosen}
use Rattle.esc_calls.proofs.said_groups.with_groups.Given as goal

-- the groups whose bits were looked at are changed, and the others are not
abbrev pub invariant-loop-group : goal.invariant-loop-group
invariant-loop-group l =
    (l.rest ≡ l.fn.bits / 2 ^ l.group-index)
    × ((p : ℕ) → get_or l.groups.allowed p false
    ≡ chosen l.group-index l.fn.bits l.fn.passes l.initial.groups.allowed p)
    × (l.groups.schemes ≡ l.initial.groups.schemes)
