use Rattle.esc_account.proofs.AtOnce.CharactersPass.{none_pass}
use Rattle.esc_account.proofs.judge.Judge.passing.Goals as goal

pub returns-clause-pass : goal.returns-clause-pass
returns-clause-pass g c = none_pass (g.Self.Judge.rule c.args.self.now) c.args.before
