use Rattle.std.proofs.Common.{◌≡◌, ◌<◌, length}
use Rattle.esc_terminal.specs.Slots.{text_number}
use Rattle.esc_terminal.proofs.slots.text_number.Given as goal

-- the number and the bytes that come give that of the text
abbrev pub invariant-loop-byte : goal.invariant-loop-byte
invariant-loop-byte l =
    (l.number < 0x10000) × (text_number l.number l.rest ≡ text_number l.fn.number l.fn.text)

abbrev pub decreases-loop-byte : goal.decreases-loop-byte
decreases-loop-byte l = length l.rest
