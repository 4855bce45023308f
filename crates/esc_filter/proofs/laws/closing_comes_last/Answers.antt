use Rattle.esc_filter.specs.Passing.{passed_values}
use Rattle.esc_filter.proofs.GivingBack.GivingBackIsWritable.{closed_more}
use Rattle.esc_filter.proofs.laws.closing_comes_last.Goals as goal

pub returns : goal.returns
returns g c = λ limit admits s. closed_more admits (passed_values limit admits s)
