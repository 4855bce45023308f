use Rattle.esc_account.proofs.ledger.Ledger.look.Goals as goal

pub returns-in-Ok-clause-hears : goal.returns-in-Ok-clause-hears
returns-in-Ok-clause-hears g c = λ s h. c.in-Ok.ensures.hears s h
