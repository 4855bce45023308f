use Rattle.esc_account.specs.Entries.{as_entry}
use Rattle.esc_account.specs.Rows.{under}
use Rattle.esc_account.proofs.Rows.OneEntryMore.{found_row}
use Rattle.esc_account.proofs.Rows.WhereEntryGoes.{row_fated}
use Rattle.esc_account.proofs.table.Table.row_named.Goals as goal

pub returns-in-Some-clause-found : goal.returns-in-Some-clause-found
returns-in-Some-clause-found g c =
    row_fated g.N.PartialEq.eq c.args.self.now.rows.items c.in-Some.at c.args.made.fate
    c.args.name (rw c.as_slice.ensures.value at c.in-Some.ensures.found)

pub returns-in-Some-clause-goes : goal.returns-in-Some-clause-goes
returns-in-Some-clause-goes g c =
    found_row g.N.PartialEq.eq g.met.N.Eq.laws c.args.self.now.rows.items c.in-Some.at
    (under c.args.name (as_entry c.args.made))
    (rw c.as_slice.ensures.value at c.in-Some.ensures.found)
