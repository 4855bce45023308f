use Rattle.std.proofs.Common.{◌++◌, IsSomeAnd, ap, sym, subst, ◌∙◌}
use Rattle.esc_parse.proofs.Lists.StepsOverLists.{on_err_any}
use Rattle.line_collapse.specs.Fed.{HasWritten, text_in}
use Rattle.line_collapse.specs.Streams.{final_of, values_of}
use Rattle.line_collapse.specs.Windows.{screen_of}
use Rattle.line_collapse.proofs.Streams.{left_added}
use Rattle.line_collapse.proofs.collapse.LineCollapser.feed_last.Goals as goal

pub returns-clause-ended : goal.returns-clause-ended
returns-clause-ended g c = λ z s h.
    let A = g.row.A.Denot in
    let t = c.args.text.now in
    let k = c.in_ok-feed.ensures.given z s h in
    let there = sym c.take.ensures.value ∙ c.in-Some.is in
    let at = subst (λ x. IsSomeAnd x (HasWritten z (s ++ t))) there k.0.lines in
    left_added z s t _ _ at
    (k.1 ∙ ap (λ x. final_of z (values_of A s) ++ text_in x) there)
    (c.in_ok-lines.ensures.ok (screen_of z) (s ++ t) k.0.terminal)

pub returns-in_err-lines-clause-refused : goal.returns-in_err-lines-clause-refused
returns-in_err-lines-clause-refused g c = λ z s h.
    on_err_any _ c.from_residual-in_err-lines.result
    (c.in_err-lines.ensures.refused (screen_of z) (s ++ c.args.text.now)
    (c.in_ok-feed.ensures.given z s h).0.terminal)
