use Rattle.std.proofs.Common.{sym}
use Rattle.esc_iterm.proofs.ManyParts.{bare_long}
use Rattle.esc_iterm.proofs.read.read_bare.Goals as goal

pub returns-in_default-clause-ok : goal.returns-in_default-clause-ok
returns-in_default-clause-ok g c =
    sym (bare_long g.row.A.Denot (λ p. p.now) c.args.key.now c.args.more.now
    c.in_default.len_at_least)
