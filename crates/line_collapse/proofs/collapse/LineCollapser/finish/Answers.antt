use Rattle.std.proofs.Common.{IsSomeAnd, sym, subst, ◌∙◌}
use Rattle.esc_parse.proofs.Lists.StepsOverLists.{on_err_any}
use Rattle.line_collapse.specs.Fed.{HasWritten}
use Rattle.line_collapse.specs.Windows.{screen_of}
use Rattle.line_collapse.proofs.Streams.{open_added}
use Rattle.line_collapse.proofs.collapse.LineCollapser.finish.Goals as goal

pub returns-clause-ended : goal.returns-clause-ended
returns-clause-ended g c = λ z s h.
    let at = subst (λ x. IsSomeAnd x (HasWritten z s))
    (sym c.take.ensures.value ∙ c.in-Some.is) h.lines in
    let m = open_added z s c.cleared.result _ (c.cleared.ensures ∙ at)
    (c.in_ok-lines.ensures.ok (screen_of z) s h.terminal) in (
      record {
        terminal = h.terminal;
        lines = m.0;
        tally = h.tally;
      },
      m.1,
    )

pub returns-in_err-lines-clause-refused : goal.returns-in_err-lines-clause-refused
returns-in_err-lines-clause-refused g c = λ z s h.
    on_err_any _ c.from_residual.result
    (c.in_err-lines.ensures.refused (screen_of z) s h.terminal)
