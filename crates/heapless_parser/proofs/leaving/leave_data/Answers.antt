use Rattle.std.proofs.Common.{rules, refl}
use Rattle.heapless_parser.proofs.InChunks.StringsEndInChunks.{data_left}
use Rattle.heapless_parser.proofs.leaving.leave_data.Goals as goal

pub returns-clause-takes : goal.returns-clause-takes
returns-clause-takes c = record {
  failed = search rules;
  gives = λ out memory.
      let take = c.queue_in_ground in
      data_left c.args.parser.now take.new.parser (record c.args.event.now { kind = 10 }) memory out
      c.args.byte c.requires.breaks (take.ensures.kept memory) take.ensures.queued
      c.requires.state refl;
}
