use Rattle.esc_iterm.proofs.FilesWritable.{file_is_writable as lemma}
use Rattle.esc_iterm.proofs.file_laws.file_is_writable.Goals as goal

pub returns : goal.returns
returns g c = λ args f e. lemma args f e
