use Rattle.std.proofs.Common.{map, take}
use Rattle.std.specs.List.{FoldsTo}
use Rattle.esc_actions.specs.declared.action.Action.TheVariants.{Print}
use Rattle.esc_filter.specs.Fed.{TakesBy}
use Rattle.esc_filter.proofs.passing.PassingSinkAction.receive_text.Given as goal

abbrev pub invariant-loop-byte : goal.invariant-loop-byte
invariant-loop-byte g l = FoldsTo (TakesBy g.P.Admit.admits) l.initial.self
    (map Print (take l.byte-index l.text)) l.self
