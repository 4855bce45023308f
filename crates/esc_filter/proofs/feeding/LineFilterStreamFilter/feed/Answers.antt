use Rattle.std.proofs.Common.{◌≡◌, ◌++◌, ℕ, sym, ap, ◌∙◌, subst}
use Rattle.esc_filter.proofs.ByLine.LinesAreStreams.{by_longer}
use Rattle.esc_filter.proofs.feeding.LineFilterStreamFilter.feed.Goals as goal
use Rattle.esc_filter.specs.Lines.{HasConsumedLines, added_by, closed_by_lines_as, policy_of_lines, text_by_lines_as}
use Rattle.esc_filter.specs.declared.guard.Guard.{Guard}

pub returns-in-Ok-clause-given : goal.returns-in-Ok-clause-given
returns-in-Ok-clause-given g c = λ m e s h.
    let bs = c.args.bytes.now in
    let new = c.feed.new.self in
    let k = c.in-Ok.ensures.given h.0 h.1 s h.2 in (
      subst (λ q. (u : Guard) × (l : ℕ) × HasConsumedLines u l (g.P.Admit.admits q) (s ++ bs) new
          × (m ≡ text_by_lines_as {A = g.row.A.Denot} u l (g.P.Admit.admits q))
          × (e ≡ closed_by_lines_as {A = g.row.A.Denot} u l (g.P.Admit.admits q)))
          (sym c.in-Ok.ensures.policy) (h.0, h.1, k.0, h.3, h.4),
      ap (λ f. f (s ++ bs)) h.3 ∙ k.1
          ∙ ap (λ y. y ++ added_by new) (sym (ap (λ f. f s) h.3)),
    )

pub returns-in-Ok-clause-longer : goal.returns-in-Ok-clause-longer
returns-in-Ok-clause-longer g c = λ m e s h.
    let bs = c.args.bytes.now in
    let admits = g.P.Admit.admits (policy_of_lines c.args.self.now) in
    let k = by_longer h.0 h.1 admits s c.args.self.now h.2 bs in (
      k.0,
      ap (λ f. f (s ++ bs)) h.3 ∙ k.1 ∙ ap (λ y. y ++ k.0) (sym (ap (λ f. f s) h.3)),
    )

pub returns-in-Err-clause-longer : goal.returns-in-Err-clause-longer
returns-in-Err-clause-longer g c = λ m e s h.
    let bs = c.args.bytes.now in
    let admits = g.P.Admit.admits (policy_of_lines c.args.self.now) in
    let k = by_longer h.0 h.1 admits s c.args.self.now h.2 bs in (
      k.0,
      ap (λ f. f (s ++ bs)) h.3 ∙ k.1 ∙ ap (λ y. y ++ k.0) (sym (ap (λ f. f s) h.3)),
    )

pub returns-in-Err-clause-refused : goal.returns-in-Err-clause-refused
returns-in-Err-clause-refused g c = λ m e s h. (c.in-Err.ensures.refused h.0 h.1 s h.2).3
