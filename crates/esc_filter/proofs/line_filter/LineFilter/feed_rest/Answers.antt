use Rattle.std.proofs.Common.{OnOk, subst, sym, true, rules}
use Rattle.esc_filter.specs.Fed.{HasConsumedIn}
use Rattle.esc_filter.specs.Lines.{GrowsLine, body, policy_of_lines}
use Rattle.esc_parse.proofs.Lists.StepsOverLists.{on_ok_more}
use Rattle.esc_filter.proofs.ByLine.LinesAreStreams.{grows_rest, released, rests}
use Rattle.esc_filter.proofs.line_filter.LineFilter.feed_rest.Goals as goal

pub returns-then-is_empty-clause-given : goal.returns-then-is_empty-clause-given
returns-then-is_empty-clause-given g c = λ u limit r h holds.
    rests u limit (g.P.Admit.admits (policy_of_lines c.args.self.now)) r c.args.bytes.now
    c.args.self.now (search rules) h holds

pub returns-in-Ok-clause-given : goal.returns-in-Ok-clause-given
returns-in-Ok-clause-given g c = λ u limit r h holds.
    let admits = g.P.Admit.admits (policy_of_lines c.args.self.now) in
    let old = c.args.self.now in
    let mid = c.release.new.self in
    let new = c.pass_body.new.self in
    let bs = c.args.bytes.now in
    let longer = released u limit admits r old mid holds
    (c.in-Ok.ensures.given u limit (body r) h) in
    on_ok_more _ _ c.pass_body.result
    (λ e. grows_rest u limit admits r bs old mid new (search rules) longer e
    c.pass_body.ensures.kept.2)
    (subst (λ p. HasConsumedIn u true limit (g.P.Admit.admits p) r mid.filter
    → OnOk c.pass_body.result (GrowsLine u (g.P.Admit.admits p) limit r (body bs) mid new))
    c.in-Ok.ensures.kept.0 (c.pass_body.ensures.given u limit r) longer.0)

pub returns-in-Ok-clause-refused : goal.returns-in-Ok-clause-refused
returns-in-Ok-clause-refused g c = λ u limit r h holds.
    let admits = g.P.Admit.admits (policy_of_lines c.args.self.now) in
    let mid = c.release.new.self in
    let longer = released u limit admits r c.args.self.now mid holds
    (c.in-Ok.ensures.given u limit (body r) h) in
    c.pass_body.ensures.refused u limit r
    (subst (λ p. HasConsumedIn u true limit (g.P.Admit.admits p) r mid.filter)
    (sym c.in-Ok.ensures.kept.0) longer.0)

pub returns-in-Err-clause-refused : goal.returns-in-Err-clause-refused
returns-in-Err-clause-refused g c = λ u limit r h holds.
    c.in-Err.ensures.refused u limit (body r) h
