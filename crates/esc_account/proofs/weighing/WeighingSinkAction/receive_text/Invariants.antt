use Rattle.std.proofs.Common.{map, take}
use Rattle.std.specs.List.{FoldsTo}
use Rattle.esc_actions.specs.declared.action.Action.TheVariants as action
use Rattle.esc_account.proofs.Fates.FateByFacts.{Took}
use Rattle.esc_account.proofs.weighing.WeighingSinkAction.receive_text.Given as goal

abbrev pub invariant-loop-b : goal.invariant-loop-b
invariant-loop-b g l =
    FoldsTo (Took g.P.Admit.admits) l.initial.self (map action.Print (take l.b-index l.text)) l.self
