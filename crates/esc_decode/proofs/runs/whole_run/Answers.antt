use Rattle.esc_decode.proofs.Characters.{utf8_stays}
use Rattle.esc_decode.proofs.runs.whole_run.Goals as goal

pub returns-in-Ok-clause-stay : goal.returns-in-Ok-clause-stay
returns-in-Ok-clause-stay c = utf8_stays _ c.in-Ok.ensures.1
