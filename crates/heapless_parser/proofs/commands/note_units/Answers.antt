use Rattle.std.proofs.Common.{rules, ap}
use Rattle.heapless_parser.specs.States.{begun_in}
use Rattle.heapless_parser.proofs.InChunks.OscBytes.{units_pass}
use Rattle.heapless_parser.proofs.commands.note_units.Goals as goal

pub returns : goal.returns
returns c = record {
  other = search rules;
  queued = search rules;
  passes = λ yes.
      units_pass c.args.parser.now c.append.new.parser c.args.memory.now c.append.new.memory
      c.args.text.now c.requires.state.0 c.requires.state.1
      (ap (λ q. q.state) c.append.ensures.same)
      (ap begun_in c.append.ensures.same) c.requires.units (c.append.ensures.kept yes);
}
