use Rattle.std.proofs.Common.{◌-◌, ◌+◌, ◌≤◌, ◌≡◌, length, drop}
use Rattle.std.specs.List.{position_or_len}
use Rattle.esc_sequences.specs.Csis.{is_separator}
use Rattle.esc_sequences.proofs.csi.item_len.Given as goal

abbrev pub invariant-loop-len : goal.invariant-loop-len
invariant-loop-len l = (l.len ≤ length l.params)
    × (position_or_len is_separator l.params ≡ l.len
    + position_or_len is_separator (drop l.len l.params))

abbrev pub decreases-loop-len : goal.decreases-loop-len
decreases-loop-len l = length l.params - l.len
