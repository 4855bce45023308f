use Rattle.std.proofs.Common.{rules}
use Rattle.heapless_parser.proofs.InChunks.EscapeBytes.{between_notes}
use Rattle.heapless_parser.proofs.chunks.note_in_ground.Goals as goal

pub returns-then-parser-eq0-clause-takes : goal.returns-then-parser-eq0-clause-takes
returns-then-parser-eq0-clause-takes c = record {
  other = search rules;
  queued = search rules;
  notes = λ yes out limit.
      between_notes c.args.parser.now c.cancel.new.parser c.cancel.new.event c.args.byte
      c.cancel.ensures.moves.kept c.cancel.ensures.moves.says out limit c.requires.ground
      c.if-parser-eq0.true;
}
