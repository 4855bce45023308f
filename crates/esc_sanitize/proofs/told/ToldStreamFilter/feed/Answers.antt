use Rattle.std.proofs.lemmas.Result.{on_ok_weaker}
use Rattle.esc_sanitize.proofs.Running.{run_longer, run_more}
use Rattle.esc_sanitize.specs.Stages.{staged_added}
use Rattle.esc_sanitize.proofs.told.ToldStreamFilter.feed.Goals as goal

pub returns-clause-given : goal.returns-clause-given
returns-clause-given g c = λ m e s h.
    let n = g.N.Known in
    let k = c.feed.new.self in
    on_ok_weaker c.feed.result
    (λ r.
    run_more g.F.StreamFilter g.P.Admit g.B.Book n.encoding n.way n.text m e n.lost
    c.args.self.now.staged
    s h
    k c.args.bytes.now (staged_added g.F.StreamFilter k) c.feed.ensures.options r.0 r.1)
    (c.feed.ensures.given s h.runs)

pub returns-clause-longer : goal.returns-clause-longer
returns-clause-longer g c = λ m e s h.
    let n = g.N.Known in
    run_longer g.F.StreamFilter g.P.Admit g.B.Book n.encoding n.way n.text m e n.lost
    c.args.self.now.staged s
    h c.args.bytes.now

pub returns-clause-refused : goal.returns-clause-refused
returns-clause-refused g c = λ m e s h. c.feed.ensures.refused s h.runs
