use Rattle.std.proofs.Common.{rules, subst, sym, ◌++◌}
use Rattle.esc_filter.proofs.Results.{pushed}
use Rattle.caret_notation.proofs.VisibleText.ShownInTurn.{extends_over, extends_whole, long_of}
use Rattle.caret_notation.specs.Grown.{KeepsBy}
use Rattle.caret_notation.proofs.kept.Kept.extend.Goals as goal

pub returns-then-self-clause-given : goal.returns-then-self-clause-given
returns-then-self-clause-given g c = λ r h.
    let old = c.args.self.now in
    let new = record old { begun = c.in_ok-self.field-0 } in
    let k = extends_over c.args.marking c.args.limit r old c.args.text.now.items
    c.push_runs.new.text.items c.args.bytes.now new
    (subst (KeepsBy c.args.limit r old) c.if-self.true h) c.in_ok-self.ensures.ok.1
    c.in_ok-self.ensures.ok.0 in
    (subst (KeepsBy c.args.limit (r ++ c.args.bytes.now) new) (sym c.if-self.true) k.0, k.1)

pub returns-then-length-limit-clause-given : goal.returns-then-length-limit-clause-given
returns-then-length-limit-clause-given g c = λ r h.
    let old = c.args.self.now in
    let new = record old { span = c.extend.new.vec } in
    let q = subst (KeepsBy c.args.limit r old) c.if-self.false h in
    pushed c.extend.result old.span.items c.args.bytes.now c.extend.new.vec.items
    c.extend.ensures.items (λ e.
    let k = extends_whole c.args.marking c.args.limit r old c.args.text.now.items
    c.args.text.now.items c.args.bytes.now new q (search rules) e in
    (subst (KeepsBy c.args.limit (r ++ c.args.bytes.now) new) (sym c.if-self.false) k.0, k.1))

pub returns-clause-given : goal.returns-clause-given
returns-clause-given g c = λ r h.
    let old = c.args.self.now in
    let q = subst (KeepsBy c.args.limit r old) c.if-self.false h in
    c.overflow.ensures.given c.args.limit r h
    (long_of c.args.marking c.args.limit r old c.args.text.now.items c.args.text.now.items
    c.args.bytes.now old q (search rules))
