use Rattle.std.proofs.Common.{rules, refl}
use Rattle.heapless_parser.proofs.InChunks.EscapeBytes.{broken_gives}
use Rattle.heapless_parser.proofs.characters.note_broken.Goals as goal

pub returns-clause-takes : goal.returns-clause-takes
returns-clause-takes c = record {
  failed = search rules;
  gives = λ out memory.
      let take = c.queue_in_ground in
      broken_gives c.args.parser.now take.new.parser
      (record c.args.event.now { kind = 2; byte = 0xfffd }) c.args.byte c.requires.ground
      c.requires.broken c.requires.some take.ensures.kept take.ensures.queued refl refl out memory;
}
