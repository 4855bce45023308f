use Rattle.std.proofs.lemmas.Result.{on_ok_weaker}
use Rattle.esc_sanitize.proofs.Running.{run_closed, run_end, run_heard}
use Rattle.esc_sanitize.specs.Stages.{staged_added}
use Rattle.esc_sanitize.proofs.told.ToldStreamFilter.finish.Goals as goal

pub returns-clause-ended : goal.returns-clause-ended
returns-clause-ended g c = λ m e s h.
    let n = g.N.Known in
    on_ok_weaker c.finish.result
    (λ r.
    run_end g.F.StreamFilter g.P.Admit g.B.Book n.encoding n.way n.text m e n.lost
    c.args.self.now.staged s
    h
    (staged_added g.F.StreamFilter c.finish.new.self) r.1) (c.finish.ensures.ended s h.runs)

pub returns-clause-closed : goal.returns-clause-closed
returns-clause-closed g c = λ m e s h.
    let n = g.N.Known in
    on_ok_weaker c.finish.result
    (λ r.
    run_heard g.F.StreamFilter g.P.Admit g.B.Book n.encoding n.way n.text m e n.lost
    c.args.self.now.staged
    s
    h c.finish.new.self c.finish.ensures.options r.0) (c.finish.ensures.ended s h.runs)

pub returns-clause-longer : goal.returns-clause-longer
returns-clause-longer g c = λ m e s h.
    let n = g.N.Known in
    run_closed g.F.StreamFilter g.P.Admit g.B.Book n.encoding n.way n.text m e n.lost
    c.args.self.now.staged s
    h s

pub returns-clause-refused : goal.returns-clause-refused
returns-clause-refused g c = λ m e s h. c.finish.ensures.refused s h.runs
