use Rattle.escfilter.specs.Rows.{entries_with_row}
use Rattle.escfilter.proofs.Reported.{are_rows}
use Rattle.escfilter.proofs.rows.Rows.rows.Goals as goal

pub returns-clause-names : goal.returns-clause-names
returns-clause-names c = λ es h asked.
    rw c.rows.ensures
    (are_rows c.args.self.now.options.filter c.args.self.now.table (entries_with_row es)
    (h.named asked))

pub returns-clause-few : goal.returns-clause-few
returns-clause-few c = λ es h asked. rw c.rows.ensures (h.named asked).few
