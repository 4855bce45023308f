use Rattle.escfilter.proofs.Within.{choice_within}
use Rattle.escfilter.proofs.laws.choices_admit_less.Goals as goal

pub returns : goal.returns
returns g c = λ p d within.
    choice_within g.row.A.Denot c.some_groups_admit_less.ensures c.policies_are_groups.ensures p d
    within
