use Rattle.std.proofs.lemmas.Result.{on_ok_weaker}
use Rattle.esc_sanitize.proofs.Running.{run_closed, run_end, runs_by}
use Rattle.esc_sanitize.specs.Stages.{staged_added}
use Rattle.esc_sanitize.proofs.staged.StagedStreamFilter.finish.Goals as goal

pub returns-clause-ended : goal.returns-clause-ended
returns-clause-ended g c = λ m e s h.
    on_ok_weaker c.finish.result
    (λ r.
    run_end _ _ _ _ _ _ m e _ c.args.self.now s
    (runs_by g.F.StreamFilter g.P.Admit g.B.Book c.args.self.now m e s h)
    (staged_added g.F.StreamFilter c.finish.new.self) r.1) (c.finish.ensures.ended s h.0)

pub returns-clause-closed : goal.returns-clause-closed
returns-clause-closed g c = λ m e s h.
    on_ok_weaker c.finish.result (λ r. r.0) (c.finish.ensures.ended s h.0)

pub returns-clause-longer : goal.returns-clause-longer
returns-clause-longer g c = λ m e s h.
    run_closed _ _ _ _ _ _ m e _ c.args.self.now s
    (runs_by g.F.StreamFilter g.P.Admit g.B.Book c.args.self.now m e s h) s

pub returns-clause-refused : goal.returns-clause-refused
returns-clause-refused g c = λ m e s h. c.finish.ensures.refused s h.0
