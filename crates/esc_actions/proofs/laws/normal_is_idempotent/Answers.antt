use Rattle.esc_actions.proofs.laws.normal_is_idempotent.Goals as goal

pub returns : goal.returns
returns g c = λ s e out. c.normal_once.ensures s (c.means_writable.ensures s e out)
