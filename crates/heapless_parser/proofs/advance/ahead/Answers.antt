use Rattle.heapless_parser.proofs.advance.ahead.Goals as goal

pub returns-then-first-gt0-clause-emits : goal.returns-then-first-gt0-clause-emits
returns-then-first-gt0-clause-emits c =
    λ some. c.note_first-first.ensures.emits some c.args.out.now c.args.limit
