use Rattle.std.proofs.Common.{◌++◌, sym, ap, ◌∙◌}
use Rattle.esc_filter.proofs.Renditions.RenditionsAreResumed.{resumed_longer}
use Rattle.esc_filter.proofs.feeding.ResumingFilterStreamFilter.finish.Goals as goal
use Rattle.esc_filter.specs.Resumed.{added_by, policy_of_resuming}

pub returns-in-Ok-clause-ended : goal.returns-in-Ok-clause-ended
returns-in-Ok-clause-ended g c = λ m e s h.
    ap (λ f. f s) h.5 ∙ (c.in-Ok.ensures.ended h.0 h.1 h.2 s h.3).1
    ∙ ap (λ y. y ++ added_by c.finish.new.self) (sym (ap (λ f. f s) h.4))

pub returns-in-Ok-clause-longer : goal.returns-in-Ok-clause-longer
returns-in-Ok-clause-longer g c = λ m e s h.
    let admits = g.P.Admit.admits (policy_of_resuming c.args.self.now) in
    let k = resumed_longer h.0 h.1 h.2 admits s in (
      k.0,
      ap (λ f. f s) h.5 ∙ k.1 ∙ ap (λ y. y ++ k.0) (sym (ap (λ f. f s) h.4)),
    )

pub returns-in-Err-clause-longer : goal.returns-in-Err-clause-longer
returns-in-Err-clause-longer g c = λ m e s h.
    let admits = g.P.Admit.admits (policy_of_resuming c.args.self.now) in
    let k = resumed_longer h.0 h.1 h.2 admits s in (
      k.0,
      ap (λ f. f s) h.5 ∙ k.1 ∙ ap (λ y. y ++ k.0) (sym (ap (λ f. f s) h.4)),
    )

pub returns-in-Err-clause-refused : goal.returns-in-Err-clause-refused
returns-in-Err-clause-refused g c = λ m e s h. (c.in-Err.ensures.refused h.0 h.1 h.2 s h.3).3
