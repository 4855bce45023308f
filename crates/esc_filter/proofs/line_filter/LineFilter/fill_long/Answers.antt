use Rattle.std.proofs.Common.{◌++◌, ◌∷◌, [], OnOk, subst, sym, true}
use Rattle.esc_filter.specs.Fed.{HasConsumedIn}
use Rattle.esc_filter.specs.Lines.{GrowsLine, body, policy_of_lines}
use Rattle.esc_parse.proofs.Lists.StepsOverLists.{on_ok_more}
use Rattle.esc_filter.proofs.ByLine.LinesAreStreams.{fills_after}
use Rattle.esc_filter.proofs.line_filter.LineFilter.fill_long.Goals as goal

pub returns-in-Ok-clause-given : goal.returns-in-Ok-clause-given
returns-in-Ok-clause-given g c = λ u limit r h holds.
    let admits = g.P.Admit.admits (policy_of_lines c.args.self.now) in
    let old = c.args.self.now in
    let mid = c.feed_rest.new.self in
    let new = c.pass.new.self in
    let x = c.args.before.now in
    let rest = c.in-Ok.ensures.given u limit r h holds in
    let line = body (r ++ x) in
    on_ok_more _ _ c.pass.result
    (λ e. fills_after u limit admits r x old mid new rest e c.pass.ensures.kept.2)
    (subst (λ p. HasConsumedIn u true limit (g.P.Admit.admits p) line mid.filter
    → OnOk c.pass.result
    (GrowsLine u (g.P.Admit.admits p) limit line (0x0a ∷ []) mid new)) c.in-Ok.ensures.kept.0
    (c.pass.ensures.given u limit line) rest.0.0)

pub returns-in-Ok-clause-refused : goal.returns-in-Ok-clause-refused
returns-in-Ok-clause-refused g c = λ u limit r h holds.
    let mid = c.feed_rest.new.self in
    let rest = c.in-Ok.ensures.given u limit r h holds in
    let line = body (r ++ c.args.before.now) in
    c.pass.ensures.refused u limit line
    (subst (λ p. HasConsumedIn u true limit (g.P.Admit.admits p) line mid.filter)
    (sym c.in-Ok.ensures.kept.0) rest.0.0)
