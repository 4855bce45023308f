use Rattle.std.proofs.Common.{◌≡◌, List, ℕ, ◌++◌}
use Rattle.std.specs.Fmt.{HasWritten, IsPlainFormatter}
use Rattle.std.specs.Str.Chunks.{utf8_chunks_rest}
use Rattle.std.specs.Str.Lossy.{utf8_lossy}
use Rattle.esc_osc_values.proofs.lossy.LossyDisplay.fmt.Given as goal

-- the text that was written, with the text of the rest of the bytes, is the text of all the bytes
abbrev pub invariant-loop-chunk : goal.invariant-loop-chunk
invariant-loop-chunk g l =
    IsPlainFormatter l.initial.f → (done : List ℕ)
    × HasWritten g.W.Write.write_str_gives l.initial.f done l.f
    × (done ++ utf8_lossy (utf8_chunks_rest l.chunk-iterator) ≡ utf8_lossy l.fn.self.0.now)
