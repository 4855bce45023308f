use Rattle.std.proofs.Common.{arith}
use Rattle.esc_frame.proofs.ByteRuns.NoCharacterAhead.{none_of_two, none_of_three, none_of_four}
use Rattle.esc_frame.proofs.utf8.sequence.ahead.Goals as goal

pub returns-then-rest-lt224-clause-none : goal.returns-then-rest-lt224-clause-none
returns-then-rest-lt224-clause-none c =
    λ some zero. none_of_two c.args.rest.now (omega arith) (c.of_two.ensures.none zero)

pub returns-then-rest-lt240-clause-none : goal.returns-then-rest-lt240-clause-none
returns-then-rest-lt240-clause-none c = λ some zero.
    none_of_three c.args.rest.now (omega arith) (λ high. absurd (omega arith)) (λ room.
    c.of_three.ensures.none zero)

pub returns-else-rest-lt240-clause-none : goal.returns-else-rest-lt240-clause-none
returns-else-rest-lt240-clause-none c =
    λ some zero. none_of_four c.args.rest.now (omega arith) (c.of_four.ensures.none zero)
