use Rattle.flat_values.proofs.ImagesWhole.{images_whole}
use Rattle.flat_values.proofs.laws.images_are_whole.Goals as goal

pub returns : goal.returns
returns g c = λ i j number table. images_whole i j number table
