use Rattle.std.proofs.Common.{◌++◌, ap, refl, sym, ◌∙◌}
use Rattle.eschtml.proofs.Lining.{lines_fed, lines_longer, on_err_always, on_ok_then}
use Rattle.eschtml.proofs.lined.LinedStreamFilter.feed.Goals as goal

pub returns-clause-given : goal.returns-clause-given
returns-clause-given g c = λ m e s h.
    let fed = c.in_ok-feed.ensures.given h.inner h.inner_end s h.given in
    on_ok_then _ _ c.feed-2.result
    (λ k. lines_fed g.F.StreamFilter _ m e s h c.args.bytes.now c.output.result.now _ _ _ refl
    fed.0
    (fed.1 ∙ ap (λ x. h.inner s ++ x) (sym c.output.ensures)) k)
    (c.feed-2.ensures.given h.first (h.inner s) h.lines)

pub returns-clause-longer : goal.returns-clause-longer
returns-clause-longer g c = λ m e s h. lines_longer g.F.StreamFilter _ m e s h c.args.bytes.now

pub returns-in_err-feed-clause-longer : goal.returns-in_err-feed-clause-longer
returns-in_err-feed-clause-longer g c = λ m e s h.
    lines_longer g.F.StreamFilter _ m e s h c.args.bytes.now

pub returns-in_err-feed-clause-refused : goal.returns-in_err-feed-clause-refused
returns-in_err-feed-clause-refused g c = λ m e s h.
    on_err_always _ c.from_residual.result
    (c.in_err-feed.ensures.refused h.inner h.inner_end s h.given)
