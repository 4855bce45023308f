use Rattle.std.proofs.Common.{◌≡◌, ◌++◌, IfOk, OnOk, subst}
use Rattle.esc_account.specs.Entries.{noted_entries}
use Rattle.esc_account.proofs.Entries.LineIsEntered.{entries_whole, run_whole}
use Rattle.esc_account.proofs.account.Account.entered.Goals as goal

pub returns-clause-entered : goal.returns-clause-entered
returns-clause-entered g c = λ gs cut.
    let r = g.J.Judge.rule c.args.judge.now in
    subst (λ v. IfOk c.line_run.result (λ x. x ≡ v)) (run_whole r c.args.self gs)
    (c.line_run.ensures.entered gs cut)

pub returns-clause-given : goal.returns-clause-given
returns-clause-given g c = λ gs es cut old.
    let r = g.J.Judge.rule c.args.judge.now in
    subst (λ v. OnOk c.line_run.result
    (g.B.Book.was_given c.line_run.new.book (es ++ noted_entries v)))
    (entries_whole r c.args.self gs)
    (c.line_run.ensures.given gs es cut old)
