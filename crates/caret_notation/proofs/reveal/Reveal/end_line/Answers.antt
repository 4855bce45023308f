use Rattle.std.proofs.Common.{◌∷◌, []}
use Rattle.esc_filter.proofs.Results.{pushed}
use Rattle.caret_notation.proofs.Streams.TextOfFedBytes.{at_text, line_grows}
use Rattle.caret_notation.specs.Fed.{added_by}
use Rattle.caret_notation.proofs.reveal.Reveal.end_line.Goals as goal

pub returns-clause-given : goal.returns-clause-given
returns-clause-given g c = λ r h.
    let old = c.args.self.now in
    let mid = c.show.new.self in
    let k = c.in_ok-show.ensures.given r h in
    pushed c.extend.result (added_by mid) (c.args.byte ∷ []) c.extend.new.vec.items
    c.extend.ensures.items (λ e.
    line_grows g.P.Admit old.rule r c.args.byte (record mid { text = c.extend.new.vec })
    (added_by old) (added_by mid) c.extend.new.vec.items c.requires k.1 e
    (at_text [] mid c.extend.new.vec k.0))
