use Rattle.std.proofs.Common.{◌++◌, Some, false, sym, ap, ◌∙◌}
use Rattle.esc_actions.specs.Texts.{list_text}
use Rattle.esc_parse.proofs.Lists.StepsOverLists.{on_ok_more}
use Rattle.esc_filter.proofs.GivingBack.GivingBackIsWritable.{closed_more}
use Rattle.esc_filter.proofs.feeding.FilterStreamFilter.finish.Goals as goal
use Rattle.esc_filter.specs.Closing.{closing}
use Rattle.esc_filter.specs.Fed.{policy_of}
use Rattle.esc_filter.specs.Passing.{passed_as}

pub returns-clause-ended : goal.returns-clause-ended
returns-clause-ended g c = λ m e s h.
    let admits = g.P.Admit.admits (policy_of c.args.self.now) in
    let vs = passed_as h.0 (Some h.1) admits s in
    on_ok_more _ _ c.finish.result (λ k.
    ap (λ f. f s) h.4 ∙ closed_more admits vs ∙ ap (λ t. t ++ list_text (closing admits vs))
    (sym (ap (λ f. f s) h.3)) ∙ ap (λ t. m s ++ t) (sym k.1))
    (c.finish.ensures.ended false h.0 h.1 s h.2)

pub returns-clause-longer : goal.returns-clause-longer
returns-clause-longer g c = λ m e s h.
    let admits = g.P.Admit.admits (policy_of c.args.self.now) in
    let vs = passed_as h.0 (Some h.1) admits s in (
      list_text (closing admits vs),
      ap (λ f. f s) h.4 ∙ closed_more admits vs
          ∙ ap (λ t. t ++ list_text (closing admits vs)) (sym (ap (λ f. f s) h.3)),
    )
