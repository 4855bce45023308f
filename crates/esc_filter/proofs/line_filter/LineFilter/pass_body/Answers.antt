use Rattle.std.proofs.Common.{◌∙◌, OnOk, sym, subst, rules}
use Rattle.esc_filter.specs.Lines.{GrowsLine, policy_of_lines}
use Rattle.esc_filter.proofs.ByLine.BytesOfLines.{body_taken, body_whole}
use Rattle.esc_filter.proofs.line_filter.LineFilter.pass_body.Goals as goal

pub returns-then-self-clause-given : goal.returns-then-self-clause-given
returns-then-self-clause-given g c = λ u limit l h.
    let admits = g.P.Admit.admits (policy_of_lines c.args.self.now) in
    let old = c.args.self.now in
    subst (λ b. OnOk c.pass.result (GrowsLine u admits limit l b old c.pass.new.self))
    (sym (body_taken c.args.bytes.now (search rules))) (c.pass.ensures.given u limit l h)

pub returns-else-self-clause-given : goal.returns-else-self-clause-given
returns-else-self-clause-given g c = λ u limit l h.
    let admits = g.P.Admit.admits (policy_of_lines c.args.self.now) in
    let old = c.args.self.now in
    let p = c.pass-else-self in
    subst (λ b. OnOk p.result (GrowsLine u admits limit l b old p.new.self))
    (sym (body_whole c.args.bytes.now (search rules))) (p.ensures.given u limit l h)

pub returns-then-self-clause-kept : goal.returns-then-self-clause-kept
returns-then-self-clause-kept g c =
    let k = c.pass.ensures.kept in (k.0, k.1, k.2 ∙ c.ends_return-self.ensures)

pub returns-else-self-clause-kept : goal.returns-else-self-clause-kept
returns-else-self-clause-kept g c =
    let k = c.pass-else-self.ensures.kept in (k.0, k.1, k.2 ∙ c.ends_return-self.ensures)
