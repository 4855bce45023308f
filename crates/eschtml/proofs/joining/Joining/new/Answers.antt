use Rattle.eschtml.proofs.Joined.{joins_begin}
use Rattle.eschtml.proofs.joining.Joining.new.Goals as goal

pub returns-clause-begins : goal.returns-clause-begins
returns-clause-begins g c = λ m e given adds.
    joins_begin g.F.StreamFilter c.args.filter m e given adds
