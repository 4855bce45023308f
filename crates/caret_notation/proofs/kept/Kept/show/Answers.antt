use Rattle.std.proofs.Common.{◌++◌, ap, ◌∙◌, subst}
use Rattle.caret_notation.proofs.VisibleText.ShownInTurn.{shows_over, shows_whole}
use Rattle.caret_notation.specs.Grown.{KeepsBy}
use Rattle.caret_notation.specs.Visible.{shown_text}
use Rattle.caret_notation.proofs.kept.Kept.show.Goals as goal

pub returns-then-self-clause-given : goal.returns-then-self-clause-given
returns-then-self-clause-given g c = λ limit r h. (
  c.clear.ensures limit,
  shows_over c.args.marking limit r c.args.self.now c.args.text.now.items c.extend.new.vec.items
      c.push_stray.new.text.items (subst (KeepsBy limit r c.args.self.now) c.if-self.true h)
      c.in_ok-push_stray.ensures.ok
      (c.in_ok-extend.ensures.items
      ∙ ap (λ o. c.push_stray.new.text.items ++ o) c.closing.ensures),
)

pub returns-clause-given : goal.returns-clause-given
returns-clause-given g c = λ limit r h. (
  c.clear-2.ensures limit,
  shows_whole c.args.marking limit r c.args.self.now c.args.text.now.items
      c.push_shown.new.text.items
      (subst (KeepsBy limit r c.args.self.now) c.if-self.false h)
      (c.in_ok-push_shown.ensures.ok
      ∙ ap (λ p. c.args.text.now.items ++ shown_text c.args.marking p) c.deref.ensures.value),
)
