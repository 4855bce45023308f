use Rattle.std.proofs.Common.{◌≡◌, ◌++◌, length}
use Rattle.esc_values.specs.Clear.{separated_parts}
use Rattle.esc_terminal.proofs.link_parts.push_separated.Given as goal

-- the bytes and the parts that are left make the text
abbrev pub invariant-loop-part : goal.invariant-loop-part
invariant-loop-part g l =
    l.bytes.items ++ separated_parts l.rest ≡ l.initial.bytes.items ++ separated_parts l.fn.parts

abbrev pub decreases-loop-part : goal.decreases-loop-part
decreases-loop-part g l = length l.rest
