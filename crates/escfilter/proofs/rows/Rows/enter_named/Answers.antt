use Rattle.escfilter.proofs.Reported.{called_so}
use Rattle.escfilter.proofs.rows.Rows.enter_named.Goals as goal

pub returns-in_ok-name-clause-noted : goal.returns-in_ok-name-clause-noted
returns-in_ok-name-clause-noted c = λ es has.
    c.begin.ensures.noted es has
    (called_so c.args.self.now.options.filter c.args.made c.in_ok-name.name c.if-made.false
    (λ g gs are item. c.in_ok-name.ensures.given g gs are item has.judge))
