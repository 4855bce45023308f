use Rattle.esc_account.proofs.AtOnce.CharactersPass.{known_admits}
use Rattle.esc_account.proofs.text.admits_run.Goals as goal

pub returns-then-known : goal.returns-then-known
returns-then-known g c = λ so.
    known_admits (g.P.Admit.admits c.args.policy.now) (c.known.ensures.text c.if-known.true)
    c.args.text.now c.requires
