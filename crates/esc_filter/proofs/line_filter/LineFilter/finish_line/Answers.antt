use Rattle.std.proofs.Common.{◌∙◌, OnOk, true, subst}
use Rattle.esc_filter.specs.Fed.{HasConsumedIn}
use Rattle.esc_filter.specs.Lines.{ClosesLine, body, policy_of_lines}
use Rattle.esc_parse.proofs.Lists.StepsOverLists.{on_ok_more}
use Rattle.esc_filter.proofs.ByLine.LinesAreStreams.{ends_all, released}
use Rattle.esc_filter.proofs.line_filter.LineFilter.finish_line.Goals as goal

pub returns-in-Ok-clause-given : goal.returns-in-Ok-clause-given
returns-in-Ok-clause-given g c = λ u limit s w.
    let admits = g.P.Admit.admits (policy_of_lines c.args.self.now) in
    let old = c.args.self.now in
    let mid = c.release.new.self in
    let kept = c.in-Ok.ensures.kept in
    let k = c.close.ensures.kept in
    let longer = released u limit admits w.rest old mid w.holds
    (c.in-Ok.ensures.given u limit (body w.rest) w.fed) in
    on_ok_more _ _ c.close.result
    (λ e. ends_all u limit admits s old w mid c.close.new.self longer e (k.1 ∙ kept.1)
    (k.2 ∙ kept.2))
    (subst (λ p. HasConsumedIn u true limit (g.P.Admit.admits p) w.rest mid.filter
    → OnOk c.close.result
    (ClosesLine u (g.P.Admit.admits p) limit w.rest mid c.close.new.self)) kept.0
    (c.close.ensures.given u limit w.rest) longer.0)

pub returns-in-Err-clause-refused : goal.returns-in-Err-clause-refused
returns-in-Err-clause-refused g c = λ u limit s w.
    c.in-Err.ensures.refused u limit (body w.rest) w.fed
