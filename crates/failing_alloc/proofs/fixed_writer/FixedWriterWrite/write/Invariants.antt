use Rattle.std.proofs.Common.{◌≡◌, ◌++◌, take, length}
use Rattle.failing_alloc.proofs.fixed_writer.FixedWriterWrite.write.Given as goal

abbrev pub invariant-loop-n : goal.invariant-loop-n
invariant-loop-n l = record {
  held : take l.self.len l.self.held ≡ take l.fn.self.len l.fn.self.held ++ take l.n l.buf;
  size : length l.self.held ≡ 64;
}
