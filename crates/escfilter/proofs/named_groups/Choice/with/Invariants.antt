use Rattle.std.proofs.Common.{◌≡◌, ℕ, ◌/◌, ◌^◌, false, get_or}
use Rattle.escfilter.proofs.Chosen.{chosen}
use Rattle.escfilter.proofs.named_groups.Choice.with.Given as goal

-- the groups whose words were looked at are changed, and the others are not
abbrev pub invariant-loop-group : goal.invariant-loop-group
invariant-loop-group l =
    (l.rest ≡ l.fn.words / 2 ^ l.group-index)
    × ((p : ℕ) → get_or l.groups.allowed p false
    ≡ chosen l.group-index l.fn.words l.fn.passes l.initial.groups.allowed p)
    × (l.groups.schemes ≡ l.initial.groups.schemes)
