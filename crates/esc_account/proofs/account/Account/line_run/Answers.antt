use Rattle.std.proofs.Common.{◌≡◌, ◌++◌, IfOk, OnOk, ap, sym, ◌∙◌, subst, append_assoc}
use Rattle.esc_account.specs.Entries.{noted_entries}
use Rattle.esc_account.specs.Finished.{Finishes}
use Rattle.esc_account.specs.LineEnds.{line_entries, run_line}
use Rattle.esc_account.proofs.Entries.LineIsEntered.{line_all}
use Rattle.esc_account.proofs.account.Account.line_run.Goals as goal

pub returns-in-Ok-clause-entered : goal.returns-in-Ok-clause-entered
returns-in-Ok-clause-entered g c = λ gs cut.
    let ends = c.args.ends in
    let r = g.J.Judge.rule c.args.judge.now in
    let x = c.args.self in
    let y = c.in-Ok.account in
    let s = c.args.line.now in
    let t = c.after.result.now in
    let f = c.in-Ok.ensures.finishes in
    let k = c.has_cut.ensures t in
    let all = line_all ends r x y s t f.0
    (subst (λ v. Finishes ends r x s v y f.0) (sym c.after.ensures) f.1) k.0 k.1 in
    let same = c.one_cut.ensures s all.0 gs all.1 cut in
    subst (λ v. IfOk c.last_run.result (λ z. z ≡ v))
    (sym all.2 ∙ ap (run_line ends r x) same) (c.last_run.ensures.entered k.0 k.1)

pub returns-in-Ok-clause-given : goal.returns-in-Ok-clause-given
returns-in-Ok-clause-given g c = λ gs es cut old.
    let ends = c.args.ends in
    let r = g.J.Judge.rule c.args.judge.now in
    let x = c.args.self in
    let y = c.in-Ok.account in
    let s = c.args.line.now in
    let t = c.after.result.now in
    let f = c.in-Ok.ensures.finishes in
    let k = c.has_cut.ensures t in
    let all = line_all ends r x y s t f.0
    (subst (λ v. Finishes ends r x s v y f.0) (sym c.after.ensures) f.1) k.0 k.1 in
    let same = c.one_cut.ensures s all.0 gs all.1 cut in
    subst (λ v. OnOk c.last_run.result (g.B.Book.was_given c.last_run.new.book v))
    (append_assoc es f.0 (noted_entries (line_entries ends r y k.0))
    ∙ ap (λ v. es ++ v) (sym all.3)
    ∙ ap (λ v. es ++ noted_entries (line_entries ends r x v)) same)
    (c.last_run.ensures.given k.0 (es ++ f.0) k.1 (f.2 es old))
