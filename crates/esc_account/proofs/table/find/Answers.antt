use Rattle.std.proofs.Common.{◌∙◌, sym}
use Rattle.esc_account.proofs.Rows.OneEntryMore.{row_is}
use Rattle.esc_account.proofs.Rows.WhereEntryGoes.{row_found}
use Rattle.esc_account.proofs.table.find.Goals as goal

pub returns-then-is_row-clause-found : goal.returns-then-is_row-clause-found
returns-then-is_row-clause-found g c =
    row_found g.N.PartialEq.eq c.args.rows.now c.loop-at.at c.index-rows-at.result c.args.fate
    c.args.name c.loop-at-test.true c.index-rows-at.is c.loop-at.invariant.none
    (sym c.is_row.ensures ∙ c.if-is_row.true)

pub returns-then-is_row-clause-some : goal.returns-then-is_row-clause-some
returns-then-is_row-clause-some g c =
    row_is g.N.PartialEq.eq g.met.N.Eq.laws c.args.rows.now c.loop-at.at c.args.fate c.args.name
    (row_found g.N.PartialEq.eq c.args.rows.now c.loop-at.at c.index-rows-at.result c.args.fate
    c.args.name c.loop-at-test.true c.index-rows-at.is c.loop-at.invariant.none
    (sym c.is_row.ensures ∙ c.if-is_row.true))
