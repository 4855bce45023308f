use Rattle.esc_filter.proofs.Output.NoStrayIsWritten.{nothing_strays}
use Rattle.esc_filter.proofs.laws.nothing_strays.Goals as goal

pub returns : goal.returns
returns g c = λ u vs h. nothing_strays _ u vs h
