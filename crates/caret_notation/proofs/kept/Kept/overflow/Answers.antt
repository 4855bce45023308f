use Rattle.std.proofs.Common.{[], ap, ◌++◌, ◌∙◌}
use Rattle.caret_notation.proofs.VisibleText.ShownInTurn.{overflows}
use Rattle.caret_notation.specs.Visible.{begun_after, settled_text}
use Rattle.caret_notation.proofs.kept.Kept.overflow.Goals as goal

pub returns-clause-given : goal.returns-clause-given
returns-clause-given g c = λ limit r h long.
    let old = c.args.self.now in
    let t0 = c.args.text.now.items in
    let new = record old { begun = c.in_ok-self.field-0 } in
    overflows c.args.marking limit r old t0 c.push_runs-2.new.text.items c.args.bytes.now new h
    c.requires long _ c.extend.new.vec.items c.push_runs.new.text.items
    (c.in_ok-begun.ensures.ok.1 ∙ ap (begun_after []) c.deref.ensures.value)
    c.in_ok-self.ensures.ok.1
    (c.in_ok-extend.ensures.items ∙ ap (λ o. t0 ++ o) c.opening.ensures)
    (c.in_ok-begun.ensures.ok.0
    ∙ ap (λ p. c.extend.new.vec.items ++ settled_text [] p) c.deref.ensures.value)
    c.in_ok-self.ensures.ok.0
