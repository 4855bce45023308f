use Rattle.std.proofs.Common.{◌++◌, ap, ◌∙◌}
use Rattle.caret_notation.proofs.VisibleText.ShownInTurn.{writes_whole}
use Rattle.caret_notation.proofs.kept.Kept.write.Goals as goal

pub returns-clause-given : goal.returns-clause-given
returns-clause-given g c = λ m limit r h l. (
  c.clear.ensures limit,
  writes_whole m limit r c.args.self.now c.args.text.now.items c.extend.new.vec.items h l
      (c.in_ok-extend.ensures.items ∙ ap (λ p. c.args.text.now.items ++ p) c.deref.ensures.value),
)
