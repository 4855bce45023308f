use Rattle.heapless_parser.proofs.KeptState.UnfinishedByState.{kept_both}
use Rattle.heapless_parser.proofs.leaving.queue_in_ground.Goals as goal

pub returns-clause-kept : goal.returns-clause-kept
returns-clause-kept c = λ memory.
    let s = c.in_ground-single in
    kept_both s.new.parser s.result.kind s.result.value memory _ (s.ensures.kept memory)
