use Rattle.std.proofs.Common.{◌++◌, OnErr, OnOk, true, refl, rules, subst}
use Rattle.esc_filter.specs.Lines.{GrowsBy, HasConsumedLines, policy_of_lines}
use Rattle.esc_filter.specs.Openings.{opening_at}
use Rattle.fallible_alloc.specs.Refusals.{Refused}
use Rattle.esc_parse.proofs.Lists.StepsOverLists.{on_ok_more}
use Rattle.esc_filter.proofs.Renditions.RenditionsAreResumed.{begins_now, resumes_first, resumes_inside}
use Rattle.esc_filter.proofs.resuming.ResumingFilter.take_open.Goals as goal

pub returns-then-self-clause-given : goal.returns-then-self-clause-given
returns-then-self-clause-given g c = λ k u limit d w m.
    let admits = g.P.Admit.admits (policy_of_lines c.args.self.now.lines) in
    on_ok_more _ _ c.feed_open.result
    (λ h. resumes_inside k u limit admits d c.args.bytes.now c.args.self.now
    (record c.args.self.now { lines = c.feed_open.new.self }) m (search rules)
    c.requires.1 h refl (search rules))
    (c.feed_open.ensures.given u limit d w)

pub returns-then-self-clause-refused : goal.returns-then-self-clause-refused
returns-then-self-clause-refused g c = λ k u limit d w m. c.feed_open.ensures.refused u limit d w

pub returns-in-Ok-clause-given : goal.returns-in-Ok-clause-given
returns-in-Ok-clause-given g c = λ k u limit d w m.
    let first = c.args.self.now in
    let mid = c.resume.new.self in
    let admits = g.P.Admit.admits (policy_of_lines first.lines) in
    let o = opening_at {A = g.row.A.Denot} k u limit admits d in
    let new = record mid { is_open = true; lines = c.feed_open-in-Ok.new.self } in
    let grown = c.in-Ok.ensures.given k u limit d w m (begins_now k u limit admits d first m
    (search rules)) in
    on_ok_more _ _ c.feed_open-in-Ok.result
    (λ h. resumes_first k u limit admits d c.args.bytes.now first mid new m (search rules)
    c.requires.0 c.requires.1 grown h c.resume.ensures.kept.1 refl)
    (subst (λ p. HasConsumedLines u limit (g.P.Admit.admits p) (d ++ o) mid.lines
    → OnOk c.feed_open-in-Ok.result (GrowsBy u (g.P.Admit.admits p) limit (d ++ o) c.args.bytes.now
    mid.lines c.feed_open-in-Ok.new.self)) c.resume.ensures.kept.0
    (c.feed_open-in-Ok.ensures.given u limit (d ++ o)) grown.1.0)

pub returns-in-Ok-clause-refused : goal.returns-in-Ok-clause-refused
returns-in-Ok-clause-refused g c = λ k u limit d w m.
    let first = c.args.self.now in
    let mid = c.resume.new.self in
    let admits = g.P.Admit.admits (policy_of_lines first.lines) in
    let o = opening_at {A = g.row.A.Denot} k u limit admits d in
    let grown = c.in-Ok.ensures.given k u limit d w m (begins_now k u limit admits d first m
    (search rules)) in
    subst (λ p. HasConsumedLines u limit (g.P.Admit.admits p) (d ++ o) mid.lines
    → OnErr c.feed_open-in-Ok.result (Refused g.row.A.Denot)) c.resume.ensures.kept.0
    (c.feed_open-in-Ok.ensures.refused u limit (d ++ o)) grown.1.0
