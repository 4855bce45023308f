use Rattle.esc_idempotent.proofs.Choices.{choice_closes, choice_texts}
use Rattle.esc_idempotent.proofs.choices_close.Goals as goal

pub returns-clause-texts : goal.returns-clause-texts
returns-clause-texts g c = choice_texts

pub returns-clause-closes : goal.returns-clause-closes
returns-clause-closes g c = choice_closes
