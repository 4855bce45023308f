use Rattle.line_collapse.proofs.Streams.{final_after_longer}
use Rattle.line_collapse.proofs.collapsing.CollapsingStreamFilter.feed.Goals as goal

pub returns-in_err-feed-clause-longer : goal.returns-in_err-feed-clause-longer
returns-in_err-feed-clause-longer g c = λ m e s (z, f, ended, fed, is, ends).
    final_after_longer g.row.A.Denot z f m s c.args.bytes.now is
    (c.feed.ensures.longer f ended s fed.inner)

pub returns-clause-longer : goal.returns-clause-longer
returns-clause-longer g c = λ m e s (z, f, ended, fed, is, ends).
    final_after_longer g.row.A.Denot z f m s c.args.bytes.now is
    (c.feed.ensures.longer f ended s fed.inner)
