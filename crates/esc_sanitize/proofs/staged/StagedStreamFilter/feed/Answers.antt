use Rattle.std.proofs.lemmas.Result.{on_ok_weaker}
use Rattle.esc_sanitize.proofs.Running.{run_longer, run_more, runs_by}
use Rattle.esc_sanitize.specs.Stages.{staged_added}
use Rattle.esc_sanitize.proofs.staged.StagedStreamFilter.feed.Goals as goal

pub returns-clause-given : goal.returns-clause-given
returns-clause-given g c = λ m e s h.
    let k = c.feed.new.self in
    on_ok_weaker c.feed.result
    (λ r.
    let q = run_more _ _ _ _ _ _ m e _ c.args.self.now s
    (runs_by g.F.StreamFilter g.P.Admit g.B.Book c.args.self.now m e s h) k c.args.bytes.now
    (staged_added g.F.StreamFilter k) c.feed.ensures.options r.0 r.1 in
    ((r.0, q.0.goes_on, q.0.ends), q.1))
    (c.feed.ensures.given s h.0)

pub returns-clause-longer : goal.returns-clause-longer
returns-clause-longer g c = λ m e s h.
    run_longer _ _ _ _ _ _ m e _ c.args.self.now s
    (runs_by g.F.StreamFilter g.P.Admit g.B.Book c.args.self.now m e s h) c.args.bytes.now

pub returns-clause-refused : goal.returns-clause-refused
returns-clause-refused g c = λ m e s h. c.feed.ensures.refused s h.0
