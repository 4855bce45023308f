use Rattle.std.proofs.Common.{rules, ap}
use Rattle.heapless_parser.proofs.InChunks.ApcBytes.{text_passes}
use Rattle.heapless_parser.proofs.commands.note_text.Goals as goal

pub returns : goal.returns
returns c = record {
  other = search rules;
  queued = search rules;
  passes = λ yes.
      text_passes c.args.parser.now c.append.new.parser c.args.memory.now c.append.new.memory
      c.args.text.now c.requires.state (ap (λ q. q.state) c.append.ensures.same) c.requires.text
      (c.append.ensures.kept yes);
}
