use Rattle.std.proofs.Common.{refl}
use Rattle.esc_filter.specs.Groups.{place}
use Rattle.esc_filter.proofs.Admission.ChoicesAdmit.{below}
use Rattle.esc_filter.proofs.groups.place.Goals as goal

pub returns-clause-place : goal.returns-clause-place
unfolding place
returns-clause-place c = refl

pub returns-clause-below : goal.returns-clause-below
unfolding place
returns-clause-below c = below c.args.group
