use Rattle.std.proofs.Common.{rules}
use Rattle.esc_filter.proofs.GivingBack.RenditionsAfterSequence.{others_stay}
use Rattle.esc_filter.proofs.leaving.may_change.Goals as goal

pub returns-in_default : goal.returns-in_default
returns-in_default c = λ _ es t.
    others_stay c.args.control es t (search rules) (search rules) (search rules) (search rules)
    (search rules) (search rules) (search rules) (search rules) (search rules) (search rules)

pub returns-in_default-2 : goal.returns-in_default-2
returns-in_default-2 c = λ _ es t.
    others_stay c.args.control es t (search rules) (search rules) (search rules) (search rules)
    (search rules) (search rules) (search rules) (search rules) (search rules) (search rules)

pub returns-in_default-3 : goal.returns-in_default-3
returns-in_default-3 c = λ _ es t.
    others_stay c.args.control es t (search rules) (search rules) (search rules) (search rules)
    (search rules) (search rules) (search rules) (search rules) (search rules) (search rules)
