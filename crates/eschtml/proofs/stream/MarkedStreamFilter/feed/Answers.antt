use Rattle.std.proofs.Common.{◌++◌, Some, sym, ap, ◌∙◌}
use Rattle.esc_html.specs.Fed.{added_by}
use Rattle.eschtml.proofs.Longer.{page_longer, text_more}
use Rattle.eschtml.proofs.stream.MarkedStreamFilter.feed.Goals as goal

pub returns-in-Ok-clause-given : goal.returns-in-Ok-clause-given
returns-in-Ok-clause-given g c = λ m e s h.
    let bs = c.args.bytes.now in
    let new = c.feed.new.self in
    let k = c.in-Ok.ensures.given h.0 h.1 s h.2 in (
      (h.0, h.1, k.0, h.3, h.4),
      ap (λ f. f (s ++ bs)) h.3 ∙ k.1 ∙ ap (λ y. y ++ added_by new) (sym (ap (λ f. f s) h.3)),
    )

pub returns-in-Ok-clause-longer : goal.returns-in-Ok-clause-longer
returns-in-Ok-clause-longer g c = λ m e s h.
    let bs = c.args.bytes.now in
    let t = text_more g.row.A.Denot (Some h.0) h.1 s bs in (
      t,
      ap (λ f. f (s ++ bs)) h.3 ∙ page_longer g.row.A.Denot (Some h.0) h.1 s bs
          ∙ ap (λ y. y ++ t) (sym (ap (λ f. f s) h.3)),
    )

pub returns-in-Err-clause-longer : goal.returns-in-Err-clause-longer
returns-in-Err-clause-longer g c = λ m e s h.
    let bs = c.args.bytes.now in
    let t = text_more g.row.A.Denot (Some h.0) h.1 s bs in (
      t,
      ap (λ f. f (s ++ bs)) h.3 ∙ page_longer g.row.A.Denot (Some h.0) h.1 s bs
          ∙ ap (λ y. y ++ t) (sym (ap (λ f. f s) h.3)),
    )

pub returns-in-Err-clause-refused : goal.returns-in-Err-clause-refused
returns-in-Err-clause-refused g c = λ m e s h. (c.in-Err.ensures.refused h.0 h.1 s h.2).3
