use Rattle.std.proofs.Common.{◌≡◌, ◌++◌, drop, length, take}
use Rattle.esc_decode.specs.Masks.{masked_after}
use Rattle.esc_frame.specs.Machine.Prefixes.{prefix_of}
use Rattle.esc_decode.proofs.runs.mask_each.Given as goal

-- the bytes so far, and those that the others become
abbrev pub invariant-loop-at : goal.invariant-loop-at
invariant-loop-at l = (length l.bytes ≡ length l.fn.bytes)
    × (take l.at l.bytes ++ masked_after (prefix_of l.last) (drop l.at l.bytes)
    ≡ masked_after (prefix_of l.fn.begun) l.fn.bytes)
