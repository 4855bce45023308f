use Rattle.caret_notation.proofs.Filters.FilterOfRevealed.{through_end}
use Rattle.caret_notation.proofs.revealing.RevealingStreamFilter.finish.Goals as goal

pub returns-in_err-finish-clause-longer : goal.returns-in_err-finish-clause-longer
returns-in_err-finish-clause-longer g c = λ m c' s h.
    through_end g.F.StreamFilter g.P.Admit c.args.self.now.reveal c.args.self.now.filter m c' s h

pub returns-in_err-feed-clause-longer : goal.returns-in_err-feed-clause-longer
returns-in_err-feed-clause-longer g c = λ m c' s h.
    through_end g.F.StreamFilter g.P.Admit c.args.self.now.reveal c.args.self.now.filter m c' s h

pub returns-in_err-push_str-clause-longer : goal.returns-in_err-push_str-clause-longer
returns-in_err-push_str-clause-longer g c = λ m c' s h.
    through_end g.F.StreamFilter g.P.Admit c.args.self.now.reveal c.args.self.now.filter m c' s h

pub returns-clause-longer : goal.returns-clause-longer
returns-clause-longer g c = λ m c' s h.
    through_end g.F.StreamFilter g.P.Admit c.args.self.now.reveal c.args.self.now.filter m c' s h

pub returns-in_err-finish-2-clause-longer : goal.returns-in_err-finish-2-clause-longer
returns-in_err-finish-2-clause-longer g c = λ m c' s h.
    through_end g.F.StreamFilter g.P.Admit c.args.self.now.reveal c.args.self.now.filter m c' s h
