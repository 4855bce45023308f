use Rattle.caret_notation.proofs.Filters.FilterOfRevealed.{through_more}
use Rattle.caret_notation.proofs.revealing.RevealingStreamFilter.feed.Goals as goal

pub returns-in_err-feed-clause-longer : goal.returns-in_err-feed-clause-longer
returns-in_err-feed-clause-longer g c = λ m c' s h.
    through_more g.F.StreamFilter g.P.Admit c.args.self.now.reveal c.args.self.now.filter m c' s h
    c.args.bytes.now

pub returns-clause-longer : goal.returns-clause-longer
returns-clause-longer g c = λ m c' s h.
    through_more g.F.StreamFilter g.P.Admit c.args.self.now.reveal c.args.self.now.filter m c' s h
    c.args.bytes.now

pub returns-in_err-feed-2-clause-longer : goal.returns-in_err-feed-2-clause-longer
returns-in_err-feed-2-clause-longer g c = λ m c' s h.
    through_more g.F.StreamFilter g.P.Admit c.args.self.now.reveal c.args.self.now.filter m c' s h
    c.args.bytes.now
