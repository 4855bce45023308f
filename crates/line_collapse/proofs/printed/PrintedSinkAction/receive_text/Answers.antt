use Rattle.std.proofs.Common.{ap}
use Rattle.line_collapse.proofs.Printing.{text_printed}
use Rattle.line_collapse.proofs.printed.PrintedSinkAction.receive_text.Goals as goal

pub returns-clause-given : goal.returns-clause-given
returns-clause-given g c =
    text_printed g.row.A.Denot c.args.self.now _ c.args.text.now c.requires.run
    (ap (λ x. record c.args.self.now { amount = x }) c.add.ensures)
