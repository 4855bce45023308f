use Rattle.std.proofs.Common.{rules}
use Rattle.esc_filter.proofs.GivingBack.RenditionsAfterSequence.{first_turns}
use Rattle.esc_filter.proofs.leaving.are_on.Goals as goal

pub returns-in-Some-first_number : goal.returns-in-Some-first_number
returns-in-Some-first_number c =
    first_turns c.args.params.now c.in-Some-first_number.number c.in-Some-first_number.ensures
    (search rules) (search rules)
