use Rattle.std.proofs.Common.{◌≡◌, drop}
use Rattle.screen_lines.specs.Runs.{ink_after}
use Rattle.screen_lines.proofs.ink.Ink.after_each.Given as goal

-- the bytes that are left follow
abbrev pub invariant-loop-byte : goal.invariant-loop-byte
invariant-loop-byte l = ink_after l.ink (drop l.byte-index l.bytes) ≡ ink_after l.fn.self l.bytes
