use Rattle.std.proofs.Common.{rules, refl, false}
use Rattle.esc_sequences.specs.Csis.{unspecified}
use Rattle.esc_filter.proofs.GivingBack.RenditionsAfterSequence.{nameless_any, other_pens}
use Rattle.esc_filter.proofs.leaving.renditions_after.Goals as goal

pub returns-then-control-ne109 : goal.returns-then-control-ne109
returns-then-control-ne109 c = (
  unspecified c.args.params.now false c.args.control,
  nameless_any c.args.params.now false c.args.control (search rules),
  λ t. refl,
  λ p. other_pens c.args.params.now c.args.control p (search rules),
)
