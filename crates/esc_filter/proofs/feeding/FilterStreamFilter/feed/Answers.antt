use Rattle.std.proofs.Common.{◌≡◌, ◌++◌, ℕ, false, Some, sym, ap, ◌∙◌, subst}
use Rattle.esc_actions.specs.Texts.{texts_after}
use Rattle.esc_filter.proofs.Output.TextsGrow.{added_as, text_longer_as}
use Rattle.esc_filter.proofs.feeding.FilterStreamFilter.feed.Goals as goal
use Rattle.esc_filter.specs.Fed.{HasConsumedIn, added_by, policy_of}
use Rattle.esc_filter.specs.Passing.{closed_text_as, passed_as, passed_text_as}
use Rattle.esc_filter.specs.declared.guard.Guard.{Guard}
use Rattle.esc_normal.specs.Texts.{ends_in_string}

pub returns-in-Ok-clause-given : goal.returns-in-Ok-clause-given
returns-in-Ok-clause-given g c = λ m e s h.
    let bs = c.args.bytes.now in
    let new = c.feed.new.self in
    let k = c.in-Ok.ensures.given false h.0 h.1 s h.2 in (
      subst (λ q. (u : Guard) × (l : ℕ) × HasConsumedIn u false l (g.P.Admit.admits q) (s ++ bs) new
          × (m ≡ passed_text_as {A = g.row.A.Denot} u (Some l) (g.P.Admit.admits q))
          × (e ≡ closed_text_as {A = g.row.A.Denot} u (Some l) (g.P.Admit.admits q)))
          (sym c.in-Ok.ensures.policy) (h.0, h.1, k.0, h.3, h.4),
      ap (λ f. f (s ++ bs)) h.3 ∙ k.1
          ∙ ap (λ y. y ++ added_by new) (sym (ap (λ f. f s) h.3)),
    )

pub returns-in-Ok-clause-longer : goal.returns-in-Ok-clause-longer
returns-in-Ok-clause-longer g c = λ m e s h.
    let bs = c.args.bytes.now in
    let admits = g.P.Admit.admits (policy_of c.args.self.now) in
    let t = texts_after (ends_in_string false (passed_as h.0 (Some h.1) admits s))
    (added_as h.0 (Some h.1) admits s bs) in (
      t,
      ap (λ f. f (s ++ bs)) h.3 ∙ text_longer_as h.0 (Some h.1) admits s bs
          ∙ ap (λ y. y ++ t) (sym (ap (λ f. f s) h.3)),
    )

pub returns-in-Err-clause-longer : goal.returns-in-Err-clause-longer
returns-in-Err-clause-longer g c = λ m e s h.
    let bs = c.args.bytes.now in
    let admits = g.P.Admit.admits (policy_of c.args.self.now) in
    let t = texts_after (ends_in_string false (passed_as h.0 (Some h.1) admits s))
    (added_as h.0 (Some h.1) admits s bs) in (
      t,
      ap (λ f. f (s ++ bs)) h.3 ∙ text_longer_as h.0 (Some h.1) admits s bs
          ∙ ap (λ y. y ++ t) (sym (ap (λ f. f s) h.3)),
    )

pub returns-in-Err-clause-refused : goal.returns-in-Err-clause-refused
returns-in-Err-clause-refused g c = λ m e s h. (c.in-Err.ensures.refused false h.0 h.1 s h.2).3
