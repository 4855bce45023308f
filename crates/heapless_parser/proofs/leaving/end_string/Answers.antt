use Rattle.std.proofs.Common.{rules}
use Rattle.heapless_parser.proofs.leaving.end_string.Goals as goal

pub returns-then-parser-eq-DATA_STATE-clause-takes :
    goal.returns-then-parser-eq-DATA_STATE-clause-takes
returns-then-parser-eq-DATA_STATE-clause-takes c = record {
  other = search rules;
  failed = search rules;
  gives =
      λ yes. c.leave_data.ensures.takes.gives c.args.out.now c.args.memory.now;
}
