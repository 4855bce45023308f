use Rattle.std.proofs.Common.{arith}
use Rattle.esc_frame.proofs.ByteRuns.NoCharacterAhead.{none_of_one, none_of_two, none_of_three}
use Rattle.esc_frame.proofs.utf8.sequence.ahead_of_few.Goals as goal

pub returns-then-rest-lt2-clause-none : goal.returns-then-rest-lt2-clause-none
returns-then-rest-lt2-clause-none c = λ zero. none_of_one c.args.rest.now (omega arith)

pub returns-then-rest-lt224-clause-none : goal.returns-then-rest-lt224-clause-none
returns-then-rest-lt224-clause-none c =
    λ zero. none_of_two c.args.rest.now (omega arith) (c.of_two.ensures.none zero)

pub returns-then-rest-lt3-clause-none : goal.returns-then-rest-lt3-clause-none
returns-then-rest-lt3-clause-none c = λ zero.
    none_of_three c.args.rest.now (omega arith) (λ high. omega arith) (λ room. absurd (omega arith))

pub returns-else-rest-lt3-clause-none : goal.returns-else-rest-lt3-clause-none
returns-else-rest-lt3-clause-none c = λ zero.
    none_of_three c.args.rest.now (omega arith) (λ high. c.requires) (λ room.
    c.of_three.ensures.none zero)
