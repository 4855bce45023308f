use Rattle.std.proofs.Common.{ap, not, ◌∙◌}
use Rattle.esc_filter.proofs.Output.RunsOfText.{none_hidden}
use Rattle.esc_filter.proofs.policy.are_shown.Goals as goal

pub returns-in_default : goal.returns-in_default
returns-in_default c = ap not c.contains.ensures.value ∙ none_hidden c.args.text.now
