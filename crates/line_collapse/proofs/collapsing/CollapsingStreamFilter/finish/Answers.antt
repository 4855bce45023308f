use Rattle.line_collapse.proofs.Streams.{left_after_longer}
use Rattle.line_collapse.proofs.collapsing.CollapsingStreamFilter.finish.Goals as goal

pub returns-in_err-finish-clause-longer : goal.returns-in_err-finish-clause-longer
returns-in_err-finish-clause-longer g c = λ m e s (z, f, ended, fed, is, ends).
    left_after_longer g.row.A.Denot z f ended m e s is ends
    (c.finish.ensures.longer f ended s fed.inner)

pub returns-clause-longer : goal.returns-clause-longer
returns-clause-longer g c = λ m e s (z, f, ended, fed, is, ends).
    left_after_longer g.row.A.Denot z f ended m e s is ends
    (c.finish.ensures.longer f ended s fed.inner)
