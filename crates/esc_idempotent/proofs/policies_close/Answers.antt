use Rattle.esc_idempotent.proofs.Policies.{closes, texts}
use Rattle.esc_idempotent.proofs.policies_close.Goals as goal

pub returns-clause-texts : goal.returns-clause-texts
returns-clause-texts g c = texts

pub returns-clause-closes : goal.returns-clause-closes
returns-clause-closes g c = closes
