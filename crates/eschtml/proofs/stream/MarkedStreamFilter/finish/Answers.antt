use Rattle.std.proofs.Common.{◌++◌, Some, sym, ap, ◌∙◌}
use Rattle.esc_html.specs.Pages.{closing_text, page_text}
use Rattle.eschtml.proofs.stream.MarkedStreamFilter.finish.Goals as goal

pub returns-clause-ended : goal.returns-clause-ended
returns-clause-ended g c = λ m e s h.
    let page = page_text g.row.A.Denot (Some h.0) h.1 s in
    ap (λ f. f s) h.4
    ∙ ap (λ t. page ++ t) (sym (c.finish-self.ensures.closes h.0 h.1 s h.2))
    ∙ ap (λ y. y ++ c.finish-self.result.now) (sym (ap (λ f. f s) h.3))

pub returns-clause-longer : goal.returns-clause-longer
returns-clause-longer g c = λ m e s h.
    let t = closing_text g.row.A.Denot (Some h.0) h.1 s in
    (t, ap (λ f. f s) h.4 ∙ ap (λ y. y ++ t) (sym (ap (λ f. f s) h.3)))
