use Rattle.std.proofs.Common.{[], ◌++◌, append-nil, sym, ap, ◌∙◌}
use Rattle.esc_normal.proofs.normaliser.NormaliserStreamFilter.finish.Goals as goal

pub returns-clause-ended : goal.returns-clause-ended
returns-clause-ended g c = λ m e s h.
    ap (λ f. f s) h.3 ∙ ap (λ f. f s) (sym h.2) ∙ sym (append-nil (m s))
    ∙ ap (λ t. m s ++ t) (sym c.restart.ensures.empty)

pub returns-clause-longer : goal.returns-clause-longer
returns-clause-longer g c = λ m e s h.
    ([], ap (λ f. f s) h.3 ∙ ap (λ f. f s) (sym h.2) ∙ sym (append-nil (m s)))
