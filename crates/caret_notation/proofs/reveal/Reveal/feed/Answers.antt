use Rattle.std.proofs.Common.{◌++◌, sym, subst}
use Rattle.caret_notation.proofs.Streams.TextOfFedBytes.{adds_all, at_text}
use Rattle.caret_notation.specs.Fed.{AtRest, GrowsBy, added_by}
use Rattle.caret_notation.specs.Spans.{rest}
use Rattle.caret_notation.proofs.reveal.Reveal.feed.Goals as goal

pub returns-in-Ok-clause-given : goal.returns-in-Ok-clause-given
returns-in-Ok-clause-given g c = λ s w.
    let old = c.args.self.now in
    let new = c.take_all.new.self in
    let b = c.args.bytes.now in
    let r = rest old.rule.by_lines s in
    let V = g.P.Admit in
    let k = adds_all V old.rule s b (added_by new) new
    (subst (λ t. GrowsBy V old.rule r b t (added_by new) new) c.clear.ensures.items
    (c.in-Ok.ensures.given r (at_text r old c.clear.new.self w))) in (
      subst (λ u. AtRest (rest u.by_lines (s ++ b)) new) (sym c.in-Ok.ensures.rule) k.0,
      k.1,
    )
