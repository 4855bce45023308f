use Rattle.esc_device.proofs.Says.{query_says}
use Rattle.esc_device.proofs.laws.query_says.Goals as goal

pub returns : goal.returns
returns c = λ ns h. query_says ns h
