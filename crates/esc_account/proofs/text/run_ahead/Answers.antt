use Rattle.std.proofs.Common.{suc, ◌≡◌, ◌-◌, Some, take, get_or, subst, arith}
use Rattle.esc_account.specs.Passing.{IsPassing}
use Rattle.esc_account.specs.Rules.{rule_of}
use Rattle.esc_account.proofs.AtOnce.CharactersPass.{data_passes, last_byte, last_taken, none_pass}
use Rattle.esc_account.proofs.text.run_ahead.Goals as goal

pub returns-then-admits_run-clause-pass : goal.returns-then-admits_run-clause-pass
returns-then-admits_run-clause-pass g c = λ by_lines u limit.
    let admits = g.P.Admit.admits c.args.policy.now in
    let s = c.args.bytes.now in
    let b = c.args.before in
    let n = c.data_ahead-run.result in
    let whole : suc (n - 1) ≡ n = omega (arith, c.if-run-eq0.false) in
    subst (IsPassing (rule_of by_lines u limit admits) b (take n s))
    (subst (λ k. last_byte b (take k s) ≡ Some (get_or s (n - 1) 0)) whole
    (last_taken b (n - 1) s (omega (arith, c.if-run-eq0.false, c.data_ahead-run.ensures.few))))
    (data_passes by_lines u limit admits b (take n s) c.data_ahead-run.ensures.data
    (c.admits_run.ensures c.if-admits_run.true))

pub returns-else-admits_run-clause-pass : goal.returns-else-admits_run-clause-pass
returns-else-admits_run-clause-pass g c = λ by_lines u limit.
    none_pass (rule_of by_lines u limit (g.P.Admit.admits c.args.policy.now)) c.args.before
