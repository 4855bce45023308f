use Rattle.std.proofs.Common.{◌++◌, sym, ap, ◌∙◌}
use Rattle.esc_normal.proofs.Normalising.{added_form, form_longer}
use Rattle.esc_normal.specs.Normalising.{added_by}
use Rattle.esc_normal.proofs.normaliser.NormaliserStreamFilter.feed.Goals as goal

pub returns-in-Ok-clause-given : goal.returns-in-Ok-clause-given
returns-in-Ok-clause-given g c = λ m e s h.
    let k = c.in-Ok.ensures.given h.0 s h.1 in (
      (h.0, k.0, h.2, h.3),
      ap (λ f. f (s ++ c.args.bytes.now)) h.2 ∙ k.1
          ∙ ap (λ y. y ++ added_by c.feed.new.self) (sym (ap (λ f. f s) h.2)),
    )

pub returns-in-Ok-clause-longer : goal.returns-in-Ok-clause-longer
returns-in-Ok-clause-longer g c = λ m e s h.
    let t = added_form g.row.A.Denot h.0 s c.args.bytes.now in (
      t,
      ap (λ f. f (s ++ c.args.bytes.now)) h.2 ∙ form_longer g.row.A.Denot h.0 s c.args.bytes.now
          ∙ ap (λ y. y ++ t) (sym (ap (λ f. f s) h.2)),
    )

pub returns-in-Err-clause-longer : goal.returns-in-Err-clause-longer
returns-in-Err-clause-longer g c = λ m e s h.
    let t = added_form g.row.A.Denot h.0 s c.args.bytes.now in (
      t,
      ap (λ f. f (s ++ c.args.bytes.now)) h.2 ∙ form_longer g.row.A.Denot h.0 s c.args.bytes.now
          ∙ ap (λ y. y ++ t) (sym (ap (λ f. f s) h.2)),
    )

pub returns-in-Err-clause-refused : goal.returns-in-Err-clause-refused
returns-in-Err-clause-refused g c = λ m e s h. (c.in-Err.ensures.refused h.0 s h.1).3
