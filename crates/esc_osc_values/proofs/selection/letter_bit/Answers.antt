use Rattle.std.proofs.Common.{rules, ◌<◌, length, refl, sym, ◌∙◌}
use Rattle.esc_osc_values.specs.Selections.{letters}
use Rattle.esc_osc_values.proofs.Selections.{bit_here, bit_later}
use Rattle.esc_osc_values.proofs.selection.letter_bit.Goals as goal

pub loop-bit-preserved : goal.loop-bit-preserved
loop-bit-preserved c =
    let i = c.loop-bit.bit-index in
    let lt : i < length letters = search rules in
    (refl, bit_later letters c.args.letter i (0, 0) lt (search rules) ∙ c.loop-bit.invariant.1)

pub returns-then-from-known : goal.returns-then-from-known
returns-then-from-known c =
    let i = c.loop-bit.bit-index in
    let lt : i < length letters = search rules in
    sym (bit_here letters c.args.letter i (0, 0) lt (search rules)) ∙ c.loop-bit.invariant.1
