use Rattle.esc_kitty.proofs.ImagesBack.{reads_back}
use Rattle.esc_kitty.proofs.laws.reads_back.Goals as goal

pub returns : goal.returns
returns g c = λ i h. reads_back i h
