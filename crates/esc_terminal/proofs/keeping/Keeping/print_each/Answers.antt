use Rattle.std.proofs.Common.{arith, subst}
use Rattle.esc_actions.specs.declared.action.Action.TheVariants as action
use Rattle.esc_parse.proofs.Runs.RunsOfText.{takes_next}
use Rattle.esc_terminal.specs.Kept.{KeepsAction, KeepsStep}
use Rattle.esc_terminal.proofs.keeping.Keeping.print_each.Goals as goal

pub loop-b-preserved : goal.loop-b-preserved
loop-b-preserved g c =
    let T = g.R.Rows.takes in
    takes_next action.Print (KeepsAction T) (KeepsAction T) c.args.text.now c.loop-b.b-index
    (omega arith) c.args.self.now _ _ c.loop-b.invariant
    (subst (λ x. KeepsStep T c.loop-b.self x c.take_step.new.self) c.print_step.ensures
    c.in_ok-take_step.ensures.ok)
