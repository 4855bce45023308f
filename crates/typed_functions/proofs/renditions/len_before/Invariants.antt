use Rattle.std.proofs.Common.{length, drop, ◌-◌, ◌≡◌, ◌≤◌, ◌+◌}
use Rattle.typed_functions.specs.Selections.{len_before}
use Rattle.typed_functions.proofs.renditions.len_before.Given as goal

-- the rest decides
abbrev pub invariant-loop-len : goal.invariant-loop-len
invariant-loop-len l =
    (l.len ≤ length l.entries)
    × (len_before l.count l.entries ≡ l.len + len_before l.left (drop l.len l.entries))

abbrev pub decreases-loop-len : goal.decreases-loop-len
decreases-loop-len l = length l.entries - l.len
