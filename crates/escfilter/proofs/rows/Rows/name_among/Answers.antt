use Rattle.std.proofs.Common.{◌∙◌, sym}
use Rattle.escfilter.specs.Names.{title_of}
use Rattle.escfilter.proofs.Reported.{title_here}
use Rattle.escfilter.proofs.rows.Rows.name_among.Goals as goal

pub returns-then-not-writes : goal.returns-then-not-writes
returns-then-not-writes c = λ judge.
    title_here c.args.self.now.options.filter c.args.self.now.judge (title_of c.args.otherwise)
    (title_of c.name_of.result) c.args.actions.now c.loop-at.at c.index-actions-at.result judge
    c.loop-at-test.true c.index-actions-at.is c.loop-at.invariant.rest
    (sym c.writes.ensures ∙ c.if-not-writes.true) c.name_of.ensures
