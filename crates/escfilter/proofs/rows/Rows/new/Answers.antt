use Rattle.escfilter.proofs.Reported.{begun_so}
use Rattle.escfilter.proofs.rows.Rows.new.Goals as goal

pub returns : goal.returns
returns c =
    begun_so c.args.options c.new-judge.result c.new-table.result c.new-judge.ensures.goes_by
    c.new-table.ensures.all c.new-table.ensures.rows
