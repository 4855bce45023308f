use Rattle.std.proofs.Common.{◌++◌, OnErr, OnOk, refl, rules, subst}
use Rattle.esc_filter.specs.Lines.{HasConsumedLines, policy_of_lines}
use Rattle.esc_filter.specs.Openings.{opening_at}
use Rattle.esc_filter.specs.Resumed.{EndsWith}
use Rattle.fallible_alloc.specs.Refusals.{Refused}
use Rattle.esc_parse.proofs.Lists.StepsOverLists.{on_ok_more}
use Rattle.esc_filter.proofs.Renditions.RenditionsAreResumed.{begins_now, resumes_blank, resumes_end, resumes_line}
use Rattle.esc_filter.proofs.resuming.ResumingFilter.take_line.Goals as goal

pub returns-then-self-clause-given : goal.returns-then-self-clause-given
returns-then-self-clause-given g c = λ k u limit d w m.
    let admits = g.P.Admit.admits (policy_of_lines c.args.self.now.lines) in
    on_ok_more _ _ c.end_line.result
    (λ h. resumes_end k u limit admits d c.args.bytes.now c.args.self.now c.end_line.new.self m
    (search rules) c.requires h c.end_line.ensures.kept.1)
    (c.end_line.ensures.given u limit d w)

pub returns-then-bytes-eq1-clause-given : goal.returns-then-bytes-eq1-clause-given
returns-then-bytes-eq1-clause-given g c = λ k u limit d w m.
    let admits = g.P.Admit.admits (policy_of_lines c.args.self.now.lines) in
    on_ok_more _ _ c.feed_line.result
    (λ h. resumes_blank k u limit admits d c.args.bytes.now c.args.self.now
    (record c.args.self.now { lines = c.feed_line.new.self }) m (search rules) c.requires
    (search rules) h refl refl refl)
    (c.feed_line.ensures.given u limit d w)

pub returns-then-bytes-eq1-clause-refused : goal.returns-then-bytes-eq1-clause-refused
returns-then-bytes-eq1-clause-refused g c = λ k u limit d w m.
    c.feed_line.ensures.refused u limit d w

pub returns-in-Ok-clause-given : goal.returns-in-Ok-clause-given
returns-in-Ok-clause-given g c = λ k u limit d w m.
    let first = c.args.self.now in
    let mid = c.resume.new.self in
    let admits = g.P.Admit.admits (policy_of_lines first.lines) in
    let o = opening_at {A = g.row.A.Denot} k u limit admits d in
    let grown = c.in-Ok.ensures.given k u limit d w m (begins_now k u limit admits d first m
    (search rules)) in
    on_ok_more _ _ c.end_line-in-Ok.result
    (λ h. resumes_line k u limit admits d c.args.bytes.now first mid c.end_line-in-Ok.new.self m
    (search rules) c.requires (search rules) grown c.resume.ensures.kept.1 h
    c.end_line-in-Ok.ensures.kept.1)
    (subst (λ p. HasConsumedLines u limit (g.P.Admit.admits p) (d ++ o) mid.lines
    → OnOk c.end_line-in-Ok.result (EndsWith u (g.P.Admit.admits p) limit (d ++ o)
    c.args.bytes.now mid c.end_line-in-Ok.new.self)) c.resume.ensures.kept.0
    (c.end_line-in-Ok.ensures.given u limit (d ++ o))
    grown.1.0)

pub returns-in-Ok-clause-refused : goal.returns-in-Ok-clause-refused
returns-in-Ok-clause-refused g c = λ k u limit d w m.
    let first = c.args.self.now in
    let mid = c.resume.new.self in
    let admits = g.P.Admit.admits (policy_of_lines first.lines) in
    let o = opening_at {A = g.row.A.Denot} k u limit admits d in
    let grown = c.in-Ok.ensures.given k u limit d w m (begins_now k u limit admits d first m
    (search rules)) in
    subst (λ p. HasConsumedLines u limit (g.P.Admit.admits p) (d ++ o) mid.lines
    → OnErr c.end_line-in-Ok.result (Refused g.row.A.Denot)) c.resume.ensures.kept.0
    (c.end_line-in-Ok.ensures.refused u limit (d ++ o)) grown.1.0

pub returns-then-self-clause-refused : goal.returns-then-self-clause-refused
returns-then-self-clause-refused g c = λ k u limit d w m. c.end_line.ensures.refused u limit d w
