use Rattle.std.proofs.Common.{◌≡◌, length, nat_le}
use Rattle.esc_values.specs.Clear.{semicolon_list, separated_parts}
use Rattle.esc_html.specs.Addresses.{is_short}
use Rattle.esc_html.proofs.address_parts.are_short.Given as goal

-- the whole is short exactly if the rest of it is no longer than there is room
abbrev pub invariant-loop-part : goal.invariant-loop-part
invariant-loop-part g l =
    is_short (semicolon_list l.fn.parts) ≡ nat_le (length (separated_parts l.rest)) l.left

abbrev pub decreases-loop-part : goal.decreases-loop-part
decreases-loop-part g l = length l.rest
