use Rattle.esc_actions.proofs.Meaning.FinishedHasNoEffect.{yield_alone}
use Rattle.esc_actions.proofs.laws.yield_alone.Goals as goal

pub returns : goal.returns
returns g c = λ limit s u b h. yield_alone limit s u h b
