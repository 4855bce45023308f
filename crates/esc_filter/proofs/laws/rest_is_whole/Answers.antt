use Rattle.std.proofs.Common.{false, true}
use Rattle.esc_filter.proofs.Output.NoUnitBeginsAnother.{rest_parts}
use Rattle.esc_filter.proofs.laws.rest_is_whole.Goals as goal

pub returns-clause-plain : goal.returns-clause-plain
returns-clause-plain g = rest_parts false

pub returns-clause-color : goal.returns-clause-color
returns-clause-color g = rest_parts true
