use Rattle.std.proofs.Common.{◌≡◌, ◌++◌, Bool, ℕ, sym, ap, ◌∙◌, subst}
use Rattle.esc_filter.proofs.Renditions.RenditionsAreResumed.{resumed_more}
use Rattle.esc_filter.proofs.feeding.ResumingFilterStreamFilter.feed.Goals as goal
use Rattle.esc_filter.specs.Openings.{resumed_closed, resumed_text}
use Rattle.esc_filter.specs.Resumed.{ResumedHasConsumed, added_by, policy_of_resuming}
use Rattle.esc_filter.specs.declared.guard.Guard.{Guard}

pub returns-in-Ok-clause-given : goal.returns-in-Ok-clause-given
returns-in-Ok-clause-given g c = λ m e s h.
    let bs = c.args.bytes.now in
    let new = c.feed.new.self in
    let k = c.in-Ok.ensures.given h.0 h.1 h.2 s h.3 in (
      subst (λ q. (k : Bool) × (u : Guard) × (l : ℕ)
          × ResumedHasConsumed k u l (g.P.Admit.admits q) (s ++ bs) new
          × (m ≡ resumed_text {A = g.row.A.Denot} k u l (g.P.Admit.admits q))
          × (e ≡ resumed_closed {A = g.row.A.Denot} k u l (g.P.Admit.admits q)))
          (sym c.in-Ok.ensures.policy) (h.0, h.1, h.2, k.0, h.4, h.5),
      ap (λ f. f (s ++ bs)) h.4 ∙ k.1
          ∙ ap (λ y. y ++ added_by new) (sym (ap (λ f. f s) h.4)),
    )

pub returns-in-Ok-clause-longer : goal.returns-in-Ok-clause-longer
returns-in-Ok-clause-longer g c = λ m e s h.
    let bs = c.args.bytes.now in
    let admits = g.P.Admit.admits (policy_of_resuming c.args.self.now) in
    let k = resumed_more h.0 h.1 h.2 admits s bs in (
      k.0,
      ap (λ f. f (s ++ bs)) h.4 ∙ k.1 ∙ ap (λ y. y ++ k.0) (sym (ap (λ f. f s) h.4)),
    )

pub returns-in-Err-clause-longer : goal.returns-in-Err-clause-longer
returns-in-Err-clause-longer g c = λ m e s h.
    let bs = c.args.bytes.now in
    let admits = g.P.Admit.admits (policy_of_resuming c.args.self.now) in
    let k = resumed_more h.0 h.1 h.2 admits s bs in (
      k.0,
      ap (λ f. f (s ++ bs)) h.4 ∙ k.1 ∙ ap (λ y. y ++ k.0) (sym (ap (λ f. f s) h.4)),
    )

pub returns-in-Err-clause-refused : goal.returns-in-Err-clause-refused
returns-in-Err-clause-refused g c = λ m e s h. (c.in-Err.ensures.refused h.0 h.1 h.2 s h.3).3
