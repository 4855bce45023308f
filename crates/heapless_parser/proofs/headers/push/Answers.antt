use Rattle.std.proofs.Common.{rules}
use Rattle.heapless_parser.proofs.InChunks.HeaderBytes.{header_passes}
use Rattle.heapless_parser.proofs.headers.push.Goals as goal

pub returns-then-is_parameter : goal.returns-then-is_parameter
returns-then-is_parameter c = record {
  other = search rules;
  queued = search rules;
  passes = λ yes.
      let k = c.push_parameter in
      header_passes c.args.parser.now k.new.parser c.args.memory.now k.new.memory c.args.byte
      c.requires.state k.ensures.same.0 c.requires.body (k.ensures.text yes) (k.ensures.header yes);
}

pub returns-else-is_parameter : goal.returns-else-is_parameter
returns-else-is_parameter c = record {
  other = search rules;
  queued = search rules;
  passes = λ yes.
      let k = c.push_other in
      let m = c.args.memory.now in
      header_passes c.args.parser.now k.new.parser m m c.args.byte c.requires.state k.ensures.same.0
      c.requires.body (λ x t. k.ensures.text x m t) k.ensures.header;
}
