use Rattle.esc_sixel.proofs.Writing.ReadIsWritable.{data_is_writable}
use Rattle.esc_sixel.proofs.laws.data_is_writable.Goals as goal

pub returns : goal.returns
returns g c = λ ps bs h. data_is_writable ps bs h
