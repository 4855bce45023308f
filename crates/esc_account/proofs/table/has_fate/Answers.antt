use Rattle.std.proofs.Common.{ap, sym, ◌∙◌, ◌==◌}
use Rattle.std.proofs.lemmas.Bool.{eqb-true}
use Rattle.esc_account.specs.Entries.{order}
use Rattle.esc_account.proofs.Rows.TableHasAll.{row_here}
use Rattle.esc_account.proofs.Rows.WhereEntryGoes.{is_other, none_past, one_fate}
use Rattle.esc_account.proofs.table.has_fate.Goals as goal

pub returns-then-at-rows-clause-one : goal.returns-then-at-rows-clause-one
returns-then-at-rows-clause-one g c = λ same.
    let r = c.index-rows-at.result in
    row_here c.args.rows.now c.args.at r c.args.fate c.if-at-rows.true c.index-rows-at.is
    (ap (λ v. v.fate) c.index-rows-at.is
    ∙ one_fate _ _ (eqb-true _ _ (sym c.are_one.ensures ∙ same)))

pub returns-then-at-rows-clause-other : goal.returns-then-at-rows-clause-other
returns-then-at-rows-clause-other g c = λ other.
    is_other c.args.rows.now c.args.at c.index-rows-at.result c.args.fate c.index-rows-at.is
    (ap (λ v. order v.fate == order c.args.fate) c.index-rows-at.is
    ∙ sym c.are_one.ensures ∙ other)

pub returns-else-at-rows-clause-other : goal.returns-else-at-rows-clause-other
returns-else-at-rows-clause-other g c = λ other.
    none_past c.args.rows.now c.args.at c.args.fate c.if-at-rows.false
