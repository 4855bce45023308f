use Rattle.std.proofs.Common.{IsSomeAnd, sym, subst, ◌∙◌}
use Rattle.line_collapse.specs.Fed.{HasWritten}
use Rattle.line_collapse.specs.Windows.{screen_of}
use Rattle.line_collapse.proofs.Taken.{printed_more}
use Rattle.line_collapse.proofs.collapse.LineCollapser.feed.Goals as goal

pub returns-in-Ok-clause-given : goal.returns-in-Ok-clause-given
returns-in-Ok-clause-given g c = λ z s h.
    let at = subst (λ x. IsSomeAnd x (HasWritten z s))
    (sym c.take.ensures.value ∙ c.in-Some.is) h.lines in
    c.take_counted.ensures.given z s h.terminal
    (record {
      lines = c.cleared.ensures ∙ at;
      tally = printed_more z s c.args.text.now _ _ _ _ _ c.take-2.ensures.value c.in-Ok.is
          c.printed.ensures.ok h.tally;
    })

pub returns-in-Ok-clause-refused : goal.returns-in-Ok-clause-refused
returns-in-Ok-clause-refused g c = λ z s h. c.take_counted.ensures.refused z s h.terminal
