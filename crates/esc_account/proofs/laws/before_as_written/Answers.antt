use Rattle.esc_account.proofs.Fates.LastCharacterWritten.{as_written}
use Rattle.esc_account.proofs.laws.before_as_written.Goals as goal

pub returns : goal.returns
returns g c = λ u b v. as_written _ u b v
