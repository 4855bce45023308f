use Rattle.std.proofs.Common.{◌≡◌, ◌-◌, ◌∙◌, OnOk, false, ap, length, rules, subst, sym, take, true}
use Rattle.esc_filter.specs.Lines.{FillsLine, content, ends_return, policy_of_lines}
use Rattle.esc_filter.proofs.ByLine.LinesAreStreams.{fills_short, fills_whole}
use Rattle.esc_filter.proofs.ByLine.BytesOfLines.{before_feed, body_taken}
use Rattle.esc_filter.proofs.line_filter.LineFilter.fill_line.Goals as goal

pub returns-then-self-clause-given : goal.returns-then-self-clause-given
returns-then-self-clause-given g c = λ u limit r h holds.
    let admits = g.P.Admit.admits (policy_of_lines c.args.self.now) in
    subst (λ y. OnOk c.fill_long.result
    (FillsLine u admits limit r y c.args.self.now c.fill_long.new.self))
    (before_feed c.args.bytes.now c.requires) (c.fill_long.ensures.given u limit r h holds)

pub returns-then-not-ends_return-clause-given : goal.returns-then-not-ends_return-clause-given
returns-then-not-ends_return-clause-given g c = λ u limit r h holds.
    let admits = g.P.Admit.admits (policy_of_lines c.args.self.now) in
    fills_whole u limit admits r c.args.bytes.now c.args.self.now c.pass.new.self c.pass.result
    c.requires h holds (search rules) (search rules) c.pass.ensures.kept.2
    (c.pass.ensures.given u limit)

pub returns-then-before-gt-SHORT-clause-given : goal.returns-then-before-gt-SHORT-clause-given
returns-then-before-gt-SHORT-clause-given g c = λ u limit r h holds.
    let admits = g.P.Admit.admits (policy_of_lines c.args.self.now) in
    subst (λ y. OnOk c.fill_long-then-before-gt-SHORT.result
    (FillsLine u admits limit r y c.args.self.now c.fill_long-then-before-gt-SHORT.new.self))
    (before_feed c.args.bytes.now c.requires)
    (c.fill_long-then-before-gt-SHORT.ensures.given u limit r h holds)

pub returns-clause-given : goal.returns-clause-given
returns-clause-given g c = λ u limit r h holds.
    let admits = g.P.Admit.admits (policy_of_lines c.args.self.now) in
    let bs = c.args.bytes.now in
    let before = before_feed bs c.requires in
    let ended : ends_return false (content bs) ≡ true =
    ap (ends_return false) (sym before) ∙ search rules in
    let same = ap (λ z. take (length z - 1) z) before ∙ sym (body_taken (content bs) ended) in
    fills_short u limit admits r bs _ c.args.self.now c.fill_short.new.self c.fill_short.result
    c.requires h holds (search rules) ended same c.fill_short.ensures.kept.2
    (c.fill_short.ensures.given u limit)
