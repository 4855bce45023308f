use Rattle.std.proofs.Common.{◌≡◌, ◌≤◌, List, ℕ, [], false, length}
use Rattle.std.specs.Io.KnownBytes.{Appends, Consumes}
use Rattle.esc_normal.proofs.filtering.filter_all.Given as goal

abbrev pub invariant-loop : goal.invariant-loop
invariant-loop g l = record {
  reader : l.fn.reader.failed ≡ false → l.reader.failed ≡ false;
  writer : l.fn.writer.failed ≡ false → l.writer.failed ≡ false;
  read : (m c : List ℕ → List ℕ) → g.F.StreamFilter.gives l.fn.filter m c [] → m [] ≡ []
      → (s : List ℕ) × Consumes (g.R.Read.remaining l.fn.reader.inner)
      (g.R.Read.remaining l.reader.inner) s
      × g.F.StreamFilter.gives l.filter m c s
      × Appends (g.W.Write.contents l.fn.writer.inner) (g.W.Write.contents l.writer.inner) (m s)
      × (l.counter ≤ length s);
}
