use Rattle.std.proofs.Common.{◌≡◌, [], ◌∙◌, rules, subst, sym}
use Rattle.std.specs.Prelude.{string_bytes}
use Rattle.esc_filter.specs.Lines.{GrowsBy, GrowsRest, policy_of_lines}
use Rattle.esc_parse.proofs.Lists.StepsOverLists.{on_ok_more}
use Rattle.esc_filter.proofs.ByLine.LinesAreStreams.{grows_not}
use Rattle.esc_filter.proofs.Renditions.RenditionsAreResumed.{nil_of, opens_with}
use Rattle.esc_filter.proofs.resuming.ResumingFilter.resume.Goals as goal

pub returns-then-is_empty-clause-given : goal.returns-then-is_empty-clause-given
returns-then-is_empty-clause-given g c = λ k u limit d w m ends.
    let admits = g.P.Admit.admits (policy_of_lines c.args.self.now.lines) in
    let none : string_bytes c.args.self.now.opening ≡ [] =
    sym c.as_bytes-opening.ensures.value ∙ nil_of c.as_bytes-opening.result.now (search rules) in
    subst (λ o. GrowsBy u admits limit d o c.args.self.now.lines c.args.self.now.lines)
    (sym none ∙ m.opening ends)
    (grows_not u limit admits d c.args.self.now.lines w)

pub returns-clause-given : goal.returns-clause-given
returns-clause-given g c = λ k u limit d w m ends.
    let admits = g.P.Admit.admits (policy_of_lines c.args.self.now.lines) in
    let e = c.as_bytes-opening.ensures.value ∙ m.opening ends in
    on_ok_more _ _ c.feed_rest.result
    (λ h. opens_with u limit admits k d c.args.self.now.lines c.feed_rest.new.self w
    (subst (λ o. GrowsRest u admits limit w.rest o c.args.self.now.lines c.feed_rest.new.self) e h)
    c.feed_rest.ensures.kept.1)
    (c.feed_rest.ensures.given u limit w.rest w.fed w.holds)

pub returns-clause-refused : goal.returns-clause-refused
returns-clause-refused g c = λ k u limit d w m.
    c.feed_rest.ensures.refused u limit w.rest w.fed w.holds
