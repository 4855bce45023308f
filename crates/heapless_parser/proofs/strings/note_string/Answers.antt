use Rattle.std.proofs.Common.{rules}
use Rattle.heapless_parser.proofs.strings.note_string.Goals as goal

pub returns-then-parser-eq-ESCAPED-clause-takes : goal.returns-then-parser-eq-ESCAPED-clause-takes
returns-then-parser-eq-ESCAPED-clause-takes c = record {
  few = search rules;
  none = search rules;
  queued = search rules;
  noted =
      λ some. c.note_final.ensures.takes.noted some c.args.out.now c.args.limit;
}
