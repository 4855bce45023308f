use Rattle.escfilter.proofs.Reported.{always, called_end}
use Rattle.escfilter.proofs.rows.Rows.end.Goals as goal

pub returns-in-Some-clause-noted : goal.returns-in-Some-clause-noted
returns-in-Some-clause-noted c = λ es has.
    always c.go_on.result
    (c.in_ok-note.ensures.noted es has
    (called_end c.args.self.now.options.filter c.args.made c.kind_name.result c.requires.end
    c.kind_name.ensures))

pub returns-in-None-clause-noted : goal.returns-in-None-clause-noted
returns-in-None-clause-noted c = λ es has.
    c.in_ok-note.ensures.noted es has
    (called_end c.args.self.now.options.filter c.args.made c.kind_name.result c.requires.end
    c.kind_name.ensures)
