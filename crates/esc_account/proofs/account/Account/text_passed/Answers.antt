use Rattle.std.proofs.Common.{take, drop, take-append-drop, length-take, sym, subst, arith}
use Rattle.esc_account.specs.Passing.{Passes}
use Rattle.esc_account.proofs.AtOnce.TextPassesAtOnce.{passes_some}
use Rattle.esc_account.proofs.account.Account.text_passed.Goals as goal

pub returns-clause-passes : goal.returns-clause-passes
returns-clause-passes g c =
    let r = g.J.Judge.rule c.args.judge.now in
    let x = c.args.self in
    let s = c.args.bytes.now in
    let n = c.passing-count.result.0 in
    let last = c.passing-count.result.1 in
    let k = c.passing-count.ensures.pass in
    subst (λ y. Passes r x s (drop n s) (record y { before = last })) (sym c.passed.ensures.passed)
    (passes_some r x s (take n s) (drop n s) k.0 last (sym (take-append-drop n s))
    (omega (arith, length-take n s, c.passing-count.ensures.few, c.if-count-eq0.false)) k.1 k.2)
