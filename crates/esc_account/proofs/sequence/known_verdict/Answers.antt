use Rattle.std.proofs.Common.{Some, ap}
use Rattle.esc_account.proofs.Fates.FateOfSequence.{left_is, passed_is, some_so}
use Rattle.esc_account.proofs.sequence.known_verdict.Goals as goal

pub returns-in-Some-true : goal.returns-in-Some-true
returns-in-Some-true g c = λ l u.
    some_so c.passed_sequence.result _ _ c.passed_sequence.ensures
    (λ p. passed_is u (g.P.Admit.admits c.args.policy.now) c.args.before c.args.bytes.now l
    c.args.params.now c.args.last p.0 p.1
    (c.in-Some-true.ensures.passes (ap Some c.in-Some-true.field-0-test)))

pub returns-in-Some-false : goal.returns-in-Some-false
returns-in-Some-false g c = λ l u.
    some_so c.left_out.result _ _ c.left_out.ensures
    (λ p. left_is u (g.P.Admit.admits c.args.policy.now) c.args.before c.args.bytes.now l
    c.args.params.now c.args.last p
    (c.in-Some-false.ensures.stays (ap Some c.in-Some-false.field-0-test)))
