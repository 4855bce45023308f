use Rattle.std.proofs.Common.{refl}
use Rattle.esc_sanitize.proofs.Auditing.{judged_is}
use Rattle.esc_sanitize.proofs.judging.Judging.new.Goals as goal

pub returns-clause-rule : goal.returns-clause-rule
returns-clause-rule g c =
    judged_is g.P.Admit c.with_guard.result c.args.options.show c.args.options
    c.with_guard.ensures refl
