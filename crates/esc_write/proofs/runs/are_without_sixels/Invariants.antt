use Rattle.std.proofs.Common.{◌≡◌, take, true}
use Rattle.std.specs.List.{list_all}
use Rattle.esc_actions.specs.Texts.{has_text}
use Rattle.esc_actions.specs.Values.{value_of}
use Rattle.esc_write.proofs.runs.are_without_sixels.Given as goal

abbrev pub invariant-loop-action : goal.invariant-loop-action
invariant-loop-action g l = list_all (λ a. has_text (value_of a)) (take l.action-index l.actions)
    ≡ true
