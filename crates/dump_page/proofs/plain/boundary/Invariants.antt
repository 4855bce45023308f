use Rattle.std.proofs.Common.{◌≤◌, length}
use Rattle.dump_page.proofs.plain.boundary.Given as goal

abbrev pub invariant-loop : goal.invariant-loop
invariant-loop l = l.end ≤ length l.fn.bytes
