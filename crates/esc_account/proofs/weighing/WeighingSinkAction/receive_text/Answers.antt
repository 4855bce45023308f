use Rattle.std.proofs.Common.{arith}
use Rattle.esc_actions.specs.declared.action.Action.TheVariants as action
use Rattle.esc_parse.proofs.Runs.RunsOfText.{takes_next}
use Rattle.esc_account.proofs.Fates.FateByFacts.{Took}
use Rattle.esc_account.proofs.weighing.WeighingSinkAction.receive_text.Goals as goal

pub loop-b-preserved : goal.loop-b-preserved
loop-b-preserved g c =
    let at = c.loop-b in
    takes_next action.Print (Took g.P.Admit.admits) (λ _ _ _. ⊥) c.args.text.now at.b-index
    (omega arith) c.args.self.now at.self _ at.invariant c.weigh.ensures
