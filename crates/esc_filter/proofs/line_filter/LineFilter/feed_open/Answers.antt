use Rattle.esc_filter.specs.Lines.{policy_of_lines}
use Rattle.esc_parse.proofs.Lists.StepsOverLists.{on_ok_more}
use Rattle.esc_filter.proofs.ByLine.LinesAreStreams.{grows_open}
use Rattle.esc_filter.proofs.line_filter.LineFilter.feed_open.Goals as goal

pub returns-clause-given : goal.returns-clause-given
returns-clause-given g c = λ u limit s w.
    let kept = c.feed_rest.ensures.kept in
    on_ok_more _ _ c.feed_rest.result (λ h.
    grows_open u limit (g.P.Admit.admits (policy_of_lines c.args.self.now)) s c.args.self.now w
    c.args.bytes.now c.feed_rest.new.self h kept.1 c.requires)
    (c.feed_rest.ensures.given u limit w.rest w.fed w.holds)

pub returns-clause-refused : goal.returns-clause-refused
returns-clause-refused g c = λ u limit s w.
    c.feed_rest.ensures.refused u limit w.rest w.fed w.holds
