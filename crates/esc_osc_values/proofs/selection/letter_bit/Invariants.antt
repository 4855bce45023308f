use Rattle.std.proofs.Common.{◌≡◌, drop}
use Rattle.esc_osc_values.specs.Selections.{letters, letter_bit, letter_bit_in}
use Rattle.esc_osc_values.proofs.selection.letter_bit.Given as goal

-- the letter is none of those before
abbrev pub invariant-loop-bit : goal.invariant-loop-bit
invariant-loop-bit l = (l.bit-items ≡ letters)
    × (letter_bit_in (drop l.bit-index letters) l.fn.letter ≡ letter_bit l.fn.letter)
