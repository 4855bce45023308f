use Rattle.esc_sixel.proofs.Writing.WritesBack.{writes_back}
use Rattle.esc_sixel.proofs.laws.writes_back.Goals as goal

pub returns : goal.returns
returns g c = λ s h. writes_back s h
