use Rattle.std.proofs.Common.{rules, ◌≡◌, length, refl}
use Rattle.esc_account.specs.Entries.{as_entry}
use Rattle.esc_account.specs.Rows.{under}
use Rattle.esc_account.proofs.Rows.OneEntryMore.{begins_row}
use Rattle.esc_account.proofs.Rows.TableHasAll.{begun_row, row_last}
use Rattle.esc_account.proofs.table.Table.begin.Goals as goal

pub returns-clause-found : goal.returns-clause-found
returns-clause-found g c =
    let n : c.len-at.result ≡ length c.args.self.now.rows.items = search rules in
    row_last c.args.self.now.rows.items c.push.new.vec.items _ c.len-at.result c.args.made.fate
    c.in_ok-push.ensures.items n refl

pub returns-clause-same : goal.returns-clause-same
returns-clause-same g c =
    rw c.in_ok-push.ensures.items (begun_row c.args.self.now.rows.items _ refl refl)

pub returns-clause-goes : goal.returns-clause-goes
returns-clause-goes g c = λ none.
    let n : c.len-at.result ≡ length c.args.self.now.rows.items = search rules in
    begins_row g.N.PartialEq.eq g.met.N.Eq.laws c.args.self.now.rows.items c.push.new.vec.items
    c.len-at.result (under c.args.name (as_entry c.args.made)) none c.in_ok-push.ensures.items n
