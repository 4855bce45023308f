use Rattle.std.proofs.Common.{◌≡◌, ◌++◌, List, ℕ, false, length}
use Rattle.std.specs.Io.KnownBytes.{Appends}
use Rattle.esc_normal.proofs.watched.Watched.write_whole.Given as goal

abbrev pub invariant-loop-rest : goal.invariant-loop-rest
invariant-loop-rest g l = record {
  whole : l.fn.self.failed ≡ false → l.self.failed ≡ false;
  prefix : (prefix : List ℕ) × (l.fn.bytes ≡ prefix ++ l.rest)
      × Appends (g.W.Write.contents l.fn.self.inner) (g.W.Write.contents l.self.inner) prefix;
}

abbrev pub decreases-loop-rest : goal.decreases-loop-rest
decreases-loop-rest g l = length l.rest
