use Rattle.std.proofs.Common.{OnOk, subst}
use Rattle.esc_filter.specs.Lines.{GrowsLine, policy_of_lines}
use Rattle.esc_filter.proofs.line_filter.LineFilter.fill_short.Goals as goal

pub returns-clause-given : goal.returns-clause-given
returns-clause-given g c = λ u limit l h.
    let admits = g.P.Admit.admits (policy_of_lines c.args.self.now) in
    let old = c.args.self.now in
    subst (λ b. OnOk c.pass.result (GrowsLine u admits limit l b old c.pass.new.self))
    c.with_feed-line.ensures (c.pass.ensures.given u limit l h)
