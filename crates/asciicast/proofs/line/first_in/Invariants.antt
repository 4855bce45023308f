use Rattle.std.proofs.Common.{◌≡◌, drop}
use Rattle.asciicast.specs.Recordings.{first_byte}
use Rattle.asciicast.proofs.line.first_in.Given as goal

-- the rest decides
abbrev pub invariant-loop-byte : goal.invariant-loop-byte
invariant-loop-byte l = first_byte l.bytes ≡ first_byte (drop l.byte-index l.bytes)
