use Rattle.xtgettcap.proofs.ReadsBack.{writes_back}
use Rattle.xtgettcap.proofs.laws.writes_back.Goals as goal

pub returns : goal.returns
returns c = λ ns h. writes_back ns h
