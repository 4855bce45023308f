use Rattle.esc_filter.proofs.Output.TextsGrow.{passed_longer}
use Rattle.esc_filter.proofs.laws.passed_more.Goals as goal

pub returns : goal.returns
returns g c = passed_longer
