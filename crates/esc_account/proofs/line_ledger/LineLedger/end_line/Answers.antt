use Rattle.std.proofs.Common.{◌++◌, OnOk, subst, sym, ap, ◌∙◌, append_assoc}
use Rattle.esc_filter.specs.Lines.{IsLine}
use Rattle.esc_parse.proofs.Lists.StepsOverLists.{on_ok_more}
use Rattle.esc_account.specs.Ledgers.{Stands}
use Rattle.esc_account.proofs.Lines.LedgerHearsMore.{line_ended, line_more}
use Rattle.esc_account.proofs.line_ledger.LineLedger.end_line.Goals as goal

pub returns-in-Ok-clause-leaves : goal.returns-in-Ok-clause-leaves
returns-in-Ok-clause-leaves g c = λ b u s t none is_line is_text before.
    let k = c.args.self.now in
    let q = c.enter_line.new.self in
    let r = g.J.Judge.rule k.judge in
    let P = g.B.Book.was_given k.book in
    let Q = g.B.Book.was_given q.book in
    let l = c.extend_both.new.line.items in
    let w = c.extend_both.new.written.items in
    let m = c.in-Ok.ensures.kept in
    let enters = c.enter_line.ensures.enters in
    subst (λ j. OnOk c.enter_line.result (Stands (g.J.Judge.rule j) Q q.account b u s t))
    (sym c.enter_line.ensures.same.0)
    (line_ended c.enter_line.result r P Q k.account q.account l w b u s t
    (subst (λ v. Stands r P k.account v (w ++ u) s t)
    (sym (append_assoc k.line.items c.args.bytes.now b) ∙ ap (λ v. v ++ b) (sym m.0))
    (subst (λ v. Stands r P k.account (k.line.items ++ (c.args.bytes.now ++ b)) v s t)
    (sym (append_assoc k.text.items c.args.text.now u) ∙ ap (λ v. v ++ u) (sym m.1)) before))
    (subst IsLine (sym m.0) (line_more k.line.items c.args.bytes.now none.0 is_line))
    (subst IsLine (sym m.1) (line_more k.text.items c.args.text.now none.1 is_text))
    (on_ok_more _ _ c.enter_line.result (λ v. v.0) enters)
    (on_ok_more _ _ c.enter_line.result (λ v. v.1) enters) c.enter_line.ensures.given)
