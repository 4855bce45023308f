use Rattle.std.proofs.Common.{◌≡◌, OnOk, subst, rules, true}
use Rattle.esc_filter.specs.Lines.{GrowsLine, held, policy_of_lines}
use Rattle.esc_filter.proofs.ByLine.LinesAreStreams.{grows_none}
use Rattle.esc_filter.proofs.line_filter.LineFilter.release.Goals as goal

pub returns-then-not-self-clause-given : goal.returns-then-not-self-clause-given
returns-then-not-self-clause-given g c = λ u limit l h.
    grows_none u limit (g.P.Admit.admits (policy_of_lines c.args.self.now)) l c.args.self.now
    (search rules) h

pub returns-clause-given : goal.returns-clause-given
returns-clause-given g c = λ u limit l h.
    let admits = g.P.Admit.admits (policy_of_lines c.args.self.now) in
    let yes : true ≡ c.args.self.now.holds = search rules in
    subst (λ b. OnOk c.pass.result
    (GrowsLine u admits limit l (held b) c.args.self.now c.pass.new.self)) yes
    (c.pass.ensures.given u limit l h)

pub returns-clause-kept : goal.returns-clause-kept
returns-clause-kept g c = c.pass.ensures.kept
