use Rattle.std.proofs.Common.{inr}
use Rattle.esc_terminal.proofs.Here.{each_received}
use Rattle.esc_terminal.proofs.keeping.KeepingSinkAction.receive_text.Goals as goal

pub returns-clause-given : goal.returns-clause-given
returns-clause-given g c =
    each_received g.R.Rows.takes _ _ c.args.text.now _ _ c.print_each.result c.requires.run.some inr
    c.print_each.ensures.ok c.print_each.ensures.failed
