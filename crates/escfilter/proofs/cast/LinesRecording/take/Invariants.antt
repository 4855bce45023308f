use Rattle.std.proofs.Common.{◌≤◌, length}
use Rattle.escfilter.proofs.cast.LinesRecording.take.Given as goal

abbrev pub invariant-loop-at : goal.invariant-loop-at
invariant-loop-at g l = length l.rest ≤ length l.fn.bytes

abbrev pub decreases-loop-at : goal.decreases-loop-at
decreases-loop-at g l = length l.rest
