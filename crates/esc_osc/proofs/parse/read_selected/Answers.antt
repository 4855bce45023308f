use Rattle.std.proofs.Common.{sym}
use Rattle.esc_osc.proofs.Selected.{selected_long}
use Rattle.esc_osc.proofs.parse.read_selected.Goals as goal

pub returns-in_default-clause-ok : goal.returns-in_default-clause-ok
returns-in_default-clause-ok g c =
    sym (selected_long g.row.A.Denot (λ p. p.now) c.args.args.now c.in_default.len_at_least)
