use Rattle.std.proofs.Common.{◌++◌, ◌∷◌, [], OnOk, ap, subst, sym, true, ◌∙◌}
use Rattle.esc_filter.specs.Fed.{HasConsumedIn}
use Rattle.esc_filter.specs.Lines.{EndsLine, FillsLine, GrowsBy, body, content, policy_of_lines}
use Rattle.esc_parse.proofs.Lists.StepsOverLists.{on_ok_more}
use Rattle.esc_filter.proofs.ByLine.LinesAreStreams.{grows_line}
use Rattle.esc_filter.proofs.ByLine.BytesOfLines.{content_is}
use Rattle.esc_filter.proofs.line_filter.LineFilter.feed_line.Goals as goal

pub returns-in-Ok-clause-given : goal.returns-in-Ok-clause-given
returns-in-Ok-clause-given g c = λ u limit s w.
    let admits = g.P.Admit.admits (policy_of_lines c.args.self.now) in
    let old = c.args.self.now in
    let mid = c.fill_line.new.self in
    let new = c.end_line.new.self in
    let kept = c.in-Ok.ensures.kept in
    let k = c.end_line.ensures.kept in
    let (x, none, e) = c.requires in
    let longer = subst (λ y. FillsLine u admits limit w.rest y old mid)
    (ap content e ∙ content_is x [] none) (c.in-Ok.ensures.given u limit w.rest w.fed w.holds) in
    let line = body (w.rest ++ x) ++ 0x0a ∷ [] in
    on_ok_more _ _ c.end_line.result
    (λ ends. subst (λ b. GrowsBy u admits limit s b old new) (sym e)
    (grows_line u limit admits s old w x mid new none longer kept.1 ends k.1 k.2))
    (subst (λ p. HasConsumedIn u true limit (g.P.Admit.admits p) line mid.filter
    → OnOk c.end_line.result (EndsLine u (g.P.Admit.admits p) limit line mid new)) kept.0
    (c.end_line.ensures.given u limit line) longer.0.0)

pub returns-in-Err-clause-refused : goal.returns-in-Err-clause-refused
returns-in-Err-clause-refused g c = λ u limit s w.
    c.in-Err.ensures.refused u limit w.rest w.fed w.holds
