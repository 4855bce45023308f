use Rattle.std.proofs.Common.{◌≡◌, List, ℕ, ◌++◌}
use Rattle.std.specs.Str.Chunks.{utf8_chunks_rest}
use Rattle.dump_page.specs.Quoted.{Quotes}
use Rattle.dump_page.proofs.quoted.push_quoted.Given as goal

abbrev pub invariant-loop-chunk : goal.invariant-loop-chunk
invariant-loop-chunk l = (done : List ℕ)
    × (l.fn.bytes ≡ done ++ utf8_chunks_rest l.chunk-iterator) × Quotes l.fn.to l.to done
