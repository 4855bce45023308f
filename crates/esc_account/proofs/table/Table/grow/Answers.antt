use Rattle.esc_account.proofs.Rows.TableHasAll.{row_written}
use Rattle.esc_account.proofs.table.Table.grow.Goals as goal

pub returns : goal.returns
returns g c = λ p q r whole place.
    row_written c.args.self.now.rows.items p q r c.index_mut-row.result.now c.args.at c.args.count
    c.args.bytes c.saturating_add-row.result c.saturating_add-row-2.result whole place
    c.index_mut-row.ensures.value c.saturating_add-row.ensures c.saturating_add-row-2.ensures
