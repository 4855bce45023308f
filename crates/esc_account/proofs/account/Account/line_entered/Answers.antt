use Rattle.std.proofs.Common.{◌≡◌, ◌++◌, IfOk, subst}
use Rattle.esc_parse.proofs.Lists.StepsOverLists.{on_ok_more}
use Rattle.esc_account.specs.Accounts.{line_begun}
use Rattle.esc_account.specs.Entries.{noted_entries}
use Rattle.esc_account.specs.LineEnds.{ends_so, line_entries, run_line}
use Rattle.esc_account.proofs.Entries.LedgerIsGiven.{gives_other, line_other, line_same, never}
use Rattle.esc_account.proofs.account.Account.line_entered.Goals as goal

pub returns-then-is_same-clause-entered : goal.returns-then-is_same-clause-entered
returns-then-is_same-clause-entered g c =
    line_same (g.J.Judge.rule c.args.judge.now) c.args.self c.passed.result c.args.line.now
    c.args.written.now (c.is_same.ensures.0 c.if-is_same.true) c.passed.ensures.passed

pub returns-else-is_same-clause-entered : goal.returns-else-is_same-clause-entered
returns-else-is_same-clause-entered g c =
    let r = g.J.Judge.rule c.args.judge.now in
    line_other r c.args.self c.args.line.now c.args.written.now
    c.line_run.result (λ e. never c.is_same.result (c.is_same.ensures.1 e) c.if-is_same.false)
    (λ gs cut. subst (λ b. IfOk c.line_run.result
    (λ y. y ≡ run_line b r (line_begun c.args.self) gs)) c.ends_so.ensures
    (c.line_run.ensures.entered gs cut))

pub returns-else-is_same-clause-given : goal.returns-else-is_same-clause-given
returns-else-is_same-clause-given g c = λ es old.
    let r = g.J.Judge.rule c.args.judge.now in
    let line = c.args.line.now in
    let k = c.has_cut.ensures line in
    on_ok_more _ _ c.line_run.result
    (λ h. (
      noted_entries (line_entries (ends_so c.args.written.now) r (line_begun c.args.self) k.0),
      gives_other c.one_cut.ensures r c.args.self line c.args.written.now k.0
          (λ e. never c.is_same.result (c.is_same.ensures.1 e) c.if-is_same.false) k.1,
      subst (λ b. g.B.Book.was_given c.line_run.new.book
          (es ++ noted_entries (line_entries b r (line_begun c.args.self) k.0))) c.ends_so.ensures
          h,
    ))
    (c.line_run.ensures.given k.0 es k.1 old)
