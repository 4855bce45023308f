use Rattle.std.proofs.Common.{IsUtf8}
use Rattle.std.specs.Str.Iter.{chars_rest}
use Rattle.esc_actions.specs.declared.action.Action.TheVariants as action
use Rattle.esc_parse.proofs.Runs.RunsOfText.{HasTaken}
use Rattle.esc_account.specs.Briefs.{Keeps}
use Rattle.esc_account.proofs.brief.BriefSinkAction.receive_str.Given as goal

abbrev pub invariant-loop-c : goal.invariant-loop-c
invariant-loop-c g l =
    IsUtf8 (chars_rest l.c-iterator)
    × HasTaken action.Print Keeps l.fn.text (chars_rest l.c-iterator) l.initial.self l.self
