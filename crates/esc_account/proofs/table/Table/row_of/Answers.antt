use Rattle.esc_account.specs.Entries.{as_entry}
use Rattle.esc_account.specs.Rows.{under}
use Rattle.esc_account.proofs.Rows.WhereEntryGoes.{ends_row, stays_ok}
use Rattle.esc_account.proofs.table.Table.row_of.Goals as goal

pub returns-then-goes_on-clause-goes : goal.returns-then-goes_on-clause-goes
returns-then-goes_on-clause-goes g c = λ es has.
    ends_row g.N.PartialEq.eq g.met.N.Eq.laws c.args.self.now es has
    (under c.args.name (as_entry c.args.made)) (c.goes_on.ensures.fate c.if-goes_on.true)
    (c.goes_on.ensures.end c.if-goes_on.true)

pub returns-clause-goes : goal.returns-clause-goes
returns-clause-goes g c = λ es has.
    stays_ok g.N.PartialEq.eq g.met.N.Eq.laws c.args.self.now es has
    (under c.args.name (as_entry c.args.made)) c.row_named.new.self.rows.items
    c.row_named.result (c.goes_on.ensures.other c.if-goes_on.false) c.row_named.ensures.goes
