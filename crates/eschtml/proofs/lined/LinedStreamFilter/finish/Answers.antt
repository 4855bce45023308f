use Rattle.std.proofs.Common.{◌++◌, ap, sym, ◌∙◌}
use Rattle.eschtml.proofs.Lining.{end_longer, lines_ended, on_err_always, on_ok_then}
use Rattle.eschtml.proofs.lined.LinedStreamFilter.finish.Goals as goal

pub returns-clause-ended : goal.returns-clause-ended
returns-clause-ended g c = λ m e s h.
    let fed = c.in_ok-finish.ensures.ended h.inner h.inner_end s h.given in
    on_ok_then _ _ c.finish-2.result
    (λ k. lines_ended g.F.StreamFilter _ m e s h c.output.result.now c.finish-2.new.self
    (fed ∙ ap (λ x. h.inner s ++ x) (sym c.output.ensures)) k)
    (c.finish-2.ensures.given h.first (h.inner s) h.lines)

pub returns-clause-longer : goal.returns-clause-longer
returns-clause-longer g c = λ m e s h. end_longer g.F.StreamFilter _ m e s h

pub returns-in_err-finish-clause-longer : goal.returns-in_err-finish-clause-longer
returns-in_err-finish-clause-longer g c = λ m e s h. end_longer g.F.StreamFilter _ m e s h

pub returns-in_err-finish-clause-refused : goal.returns-in_err-finish-clause-refused
returns-in_err-finish-clause-refused g c = λ m e s h.
    on_err_always _ c.from_residual.result
    (c.in_err-finish.ensures.refused h.inner h.inner_end s h.given)
