use Rattle.std.proofs.Common.{◌∷◌, ◌++◌, ◌∙◌, [], OnOk, ap, refl, subst, true}
use Rattle.esc_filter.specs.Fed.{HasConsumedIn}
use Rattle.esc_filter.specs.Lines.{FillsLine, body, content, policy_of_lines}
use Rattle.esc_filter.specs.Resumed.{ClosesWith}
use Rattle.esc_parse.proofs.Lists.StepsOverLists.{on_ok_more}
use Rattle.esc_filter.proofs.ByLine.BytesOfLines.{content_is}
use Rattle.esc_filter.proofs.Renditions.RenditionsAreResumed.{ends_with}
use Rattle.esc_filter.proofs.resuming.ResumingFilter.end_line.Goals as goal

pub returns-in-Ok-clause-given : goal.returns-in-Ok-clause-given
returns-in-Ok-clause-given g c = λ u limit d w.
    let old = c.args.self.now in
    let admits = g.P.Admit.admits (policy_of_lines old.lines) in
    let mid = record old { lines = c.fill_line.new.self } in
    let new = c.close_line.new.self in
    let kept = c.in-Ok.ensures.kept in
    let (x, none, e) = c.requires in
    let fills = subst (λ y. FillsLine u admits limit w.rest y old.lines mid.lines)
    (ap content e ∙ content_is x [] none) (c.in-Ok.ensures.given u limit w.rest w.fed w.holds) in
    let line = body (w.rest ++ x) ++ 0x0a ∷ [] in
    on_ok_more _ _ c.close_line.result
    (λ closes. ends_with u limit admits d c.args.bytes.now old mid new w (x, none, e) fills kept.1
    refl closes)
    (subst (λ p. HasConsumedIn u true limit (g.P.Admit.admits p) line mid.lines.filter
    → OnOk c.close_line.result (ClosesWith u (g.P.Admit.admits p) limit line mid new)) kept.0
    (c.close_line.ensures.given u limit line) fills.0.0)

pub returns-in-Err-clause-refused : goal.returns-in-Err-clause-refused
returns-in-Err-clause-refused g c = λ u limit d w.
    c.in-Err.ensures.refused u limit w.rest w.fed w.holds
