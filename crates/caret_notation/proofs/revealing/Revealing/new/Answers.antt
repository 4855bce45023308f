use Rattle.caret_notation.proofs.Filters.FilterOfRevealed.{through_begins}
use Rattle.caret_notation.proofs.revealing.Revealing.new.Goals as goal

pub returns-clause-begins : goal.returns-clause-begins
returns-clause-begins g c = λ m c' given adds fed.
    through_begins g.F.StreamFilter g.P.Admit c.args.reveal c.args.filter m c' given adds fed
