use Rattle.std.proofs.Common.{◌≡◌, false, ◌-◌, ◌^◌, vec_len}
use Rattle.std.specs.Io.KnownBytes.{Consumes}
use Rattle.esc_normal.proofs.normalisation.read_by.Given as goal

abbrev pub invariant-loop-bytes : goal.invariant-loop-bytes
invariant-loop-bytes g l = record {
  whole : l.fn.reader.failed ≡ false → l.reader.failed ≡ false;
  bytes : Consumes (g.R.Read.remaining l.fn.reader.inner)
      (g.R.Read.remaining l.reader.inner) l.bytes.items;
}

abbrev pub decreases-loop-bytes : goal.decreases-loop-bytes
decreases-loop-bytes g l = 2 ^ 64 - vec_len l.bytes
