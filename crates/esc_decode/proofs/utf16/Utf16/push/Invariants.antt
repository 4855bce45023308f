use Rattle.std.proofs.Common.{◌≡◌, ◌++◌, take}
use Rattle.esc_decode.specs.Units.{unit_text, after}
use Rattle.esc_decode.proofs.utf16.Utf16.push.Given as goal

-- the bytes so far were taken
abbrev pub invariant-loop-byte : goal.invariant-loop-byte
invariant-loop-byte g l =
    (l.self ≡ after l.initial.self (take l.byte-index l.bytes))
    × (l.text.items ≡ l.initial.text.items
    ++ unit_text l.initial.self (take l.byte-index l.bytes))
