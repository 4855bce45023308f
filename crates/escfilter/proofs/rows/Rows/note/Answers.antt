use Rattle.esc_account.specs.Entries.{as_entry}
use Rattle.escfilter.proofs.Reported.{noted_ok}
use Rattle.escfilter.proofs.rows.Rows.note.Goals as goal

pub returns-then-is_some-clause-noted : goal.returns-then-is_some-clause-noted
returns-then-is_some-clause-noted c = λ es has called.
    noted_ok c.add.result c.args.self.now.options c.args.self.now.judge c.args.self.now.table
    c.add.new.self es c.args.name c.kept_name-name.result (as_entry c.args.made) has c.requires
    called c.kept_name-name.ensures c.add.ensures.all c.add.ensures.rows c.add.ensures.begins
