use Rattle.eschtml.proofs.Piping.{piped_end_longer}
use Rattle.eschtml.proofs.piped.PipedStreamFilter.finish.Goals as goal

pub returns-in-Err-clause-longer : goal.returns-in-Err-clause-longer
returns-in-Err-clause-longer g c = λ m e s h.
    piped_end_longer g.F.StreamFilter g.G.StreamFilter _ _ m e s h
    (c.finish.ensures.longer h.of_first h.first_ended s h.first)

pub returns-in-Err-feed-clause-longer : goal.returns-in-Err-feed-clause-longer
returns-in-Err-feed-clause-longer g c = λ m e s h.
    piped_end_longer g.F.StreamFilter g.G.StreamFilter _ _ m e s h
    (c.finish.ensures.longer h.of_first h.first_ended s h.first)

pub returns-in-Err-push_str-clause-longer : goal.returns-in-Err-push_str-clause-longer
returns-in-Err-push_str-clause-longer g c = λ m e s h.
    piped_end_longer g.F.StreamFilter g.G.StreamFilter _ _ m e s h
    (c.finish.ensures.longer h.of_first h.first_ended s h.first)

pub returns-in-Ok-finish-clause-longer : goal.returns-in-Ok-finish-clause-longer
returns-in-Ok-finish-clause-longer g c = λ m e s h.
    piped_end_longer g.F.StreamFilter g.G.StreamFilter _ _ m e s h
    (c.finish.ensures.longer h.of_first h.first_ended s h.first)

pub returns-in-Err-finish-clause-longer : goal.returns-in-Err-finish-clause-longer
returns-in-Err-finish-clause-longer g c = λ m e s h.
    piped_end_longer g.F.StreamFilter g.G.StreamFilter _ _ m e s h
    (c.finish.ensures.longer h.of_first h.first_ended s h.first)
