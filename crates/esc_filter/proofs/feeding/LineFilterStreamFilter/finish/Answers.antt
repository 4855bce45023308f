use Rattle.std.proofs.Common.{◌++◌, sym, ap, ◌∙◌}
use Rattle.esc_filter.proofs.ByLine.LinesAreStreams.{closed_longer}
use Rattle.esc_filter.proofs.feeding.LineFilterStreamFilter.finish.Goals as goal
use Rattle.esc_filter.specs.Lines.{added_by, policy_of_lines}

pub returns-in-Ok-clause-ended : goal.returns-in-Ok-clause-ended
returns-in-Ok-clause-ended g c = λ m e s h.
    ap (λ f. f s) h.4 ∙ (c.in-Ok.ensures.ended h.0 h.1 s h.2).1
    ∙ ap (λ y. y ++ added_by c.finish.new.self) (sym (ap (λ f. f s) h.3))

pub returns-in-Ok-clause-longer : goal.returns-in-Ok-clause-longer
returns-in-Ok-clause-longer g c = λ m e s h.
    let admits = g.P.Admit.admits (policy_of_lines c.args.self.now) in
    let k = closed_longer h.0 h.1 admits s in (
      k.0,
      ap (λ f. f s) h.4 ∙ k.1 ∙ ap (λ y. y ++ k.0) (sym (ap (λ f. f s) h.3)),
    )

pub returns-in-Err-clause-longer : goal.returns-in-Err-clause-longer
returns-in-Err-clause-longer g c = λ m e s h.
    let admits = g.P.Admit.admits (policy_of_lines c.args.self.now) in
    let k = closed_longer h.0 h.1 admits s in (
      k.0,
      ap (λ f. f s) h.4 ∙ k.1 ∙ ap (λ y. y ++ k.0) (sym (ap (λ f. f s) h.3)),
    )

pub returns-in-Err-clause-refused : goal.returns-in-Err-clause-refused
returns-in-Err-clause-refused g c = λ m e s h. (c.in-Err.ensures.refused h.0 h.1 s h.2).3
