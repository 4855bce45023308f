use Rattle.std.proofs.Common.{IsUtf8}
use Rattle.std.specs.Str.Iter.{chars_rest}
use Rattle.esc_actions.specs.declared.action.Action.TheVariants.{Print}
use Rattle.esc_parse.proofs.Runs.RunsOfText.{HasTaken}
use Rattle.esc_filter.specs.Fed.{TakesBy}
use Rattle.esc_filter.proofs.passing.PassingSinkAction.receive_str.Given as goal

abbrev pub invariant-loop-c : goal.invariant-loop-c
invariant-loop-c g l =
    IsUtf8 (chars_rest l.c-iterator) × HasTaken Print (TakesBy g.P.Admit.admits) l.fn.text
    (chars_rest l.c-iterator) l.initial.self l.self
