use Rattle.std.proofs.Common.{arith}
use Rattle.esc_actions.specs.declared.action.Action.TheVariants as action
use Rattle.esc_parse.proofs.Runs.RunsOfText.{takes_next}
use Rattle.esc_terminal.specs.Fed.{Takes}
use Rattle.esc_terminal.proofs.state.State.print_each.Goals as goal

pub loop-b-preserved : goal.loop-b-preserved
loop-b-preserved g c =
    takes_next action.Print Takes Takes c.args.text.now c.loop-b.b-index (omega arith)
    c.args.self.now _ _ c.loop-b.invariant c.print.ensures
