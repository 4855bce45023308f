use Rattle.std.proofs.Common.{rules}
use Rattle.heapless_parser.proofs.InChunks.ApcBytes.{apc_ends}
use Rattle.heapless_parser.proofs.InChunks.CommandsLieWhole.{in_escape}
use Rattle.heapless_parser.proofs.commands.end_apc.Goals as goal

pub returns-clause-takes : goal.returns-clause-takes
returns-clause-takes c = record {
  other = search rules;
  queued = search rules;
  steps = λ yes.
      let s = c.escape.ensures.state in
      let m = c.args.memory.now in
      apc_ends c.args.parser.now c.escape.new.parser c.put_text.new.event m c.put_text.new.out
      c.args.byte c.requires.state c.requires.escape c.if-parser.false c.put_text.ensures.kind
      c.put_text.ensures.text (in_escape c.escape.new.parser m s.0 s.1 s.2);
}
