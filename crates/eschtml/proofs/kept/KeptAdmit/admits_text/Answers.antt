use Rattle.eschtml.proofs.Seen.{all_stay}
use Rattle.eschtml.proofs.kept.KeptAdmit.admits_text.Goals as goal

pub returns-in-None : goal.returns-in-None
returns-in-None g c = λ yes.
    all_stay g.row.A.Denot c.args.self.now.moves c.args.text.now c.in-None.ensures
