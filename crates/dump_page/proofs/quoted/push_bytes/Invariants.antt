use Rattle.std.proofs.Common.{take}
use Rattle.dump_page.specs.Quoted.{Quotes}
use Rattle.dump_page.proofs.quoted.push_bytes.Given as goal

abbrev pub invariant-loop-byte : goal.invariant-loop-byte
invariant-loop-byte l = Quotes l.fn.to l.to (take l.byte-index l.fn.bytes)
