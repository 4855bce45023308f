use Rattle.std.proofs.Common.{subst}
use Rattle.caret_notation.proofs.Streams.TextOfFedBytes.{at_text, ends_all}
use Rattle.caret_notation.specs.Fed.{added_by}
use Rattle.caret_notation.specs.Grown.{Grows}
use Rattle.caret_notation.specs.Spans.{rest}
use Rattle.caret_notation.specs.Visible.{rest_text, shown_text}
use Rattle.caret_notation.proofs.reveal.Reveal.finish.Goals as goal

pub returns-in-Ok-clause-ended : goal.returns-in-Ok-clause-ended
returns-in-Ok-clause-ended g c = λ s w.
    let old = c.args.self.now in
    let new = c.show.new.self in
    let r = rest old.rule.by_lines s in
    let k = c.in-Ok.ensures.given r (at_text r old c.clear.new.self w) in (
      k.0,
      ends_all g.P.Admit old.rule s (added_by new)
          (subst (λ t. Grows t (added_by new) (rest_text old.rule.marking old.rule.limit r)
          (shown_text old.rule.marking r))
          c.clear.ensures.items k.1),
    )
