use Rattle.eschtml.proofs.Piping.{piped_longer}
use Rattle.eschtml.proofs.piped.PipedStreamFilter.feed.Goals as goal

pub returns-in-Err-clause-longer : goal.returns-in-Err-clause-longer
returns-in-Err-clause-longer g c = λ m e s h.
    piped_longer g.F.StreamFilter g.G.StreamFilter _ _ m e s h c.args.bytes.now
    (c.feed.ensures.longer h.of_first h.first_ended s h.first)

pub returns-in-Ok-feed-clause-longer : goal.returns-in-Ok-feed-clause-longer
returns-in-Ok-feed-clause-longer g c = λ m e s h.
    piped_longer g.F.StreamFilter g.G.StreamFilter _ _ m e s h c.args.bytes.now
    (c.feed.ensures.longer h.of_first h.first_ended s h.first)
