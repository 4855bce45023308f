use Rattle.std.proofs.Common.{ap}
use Rattle.esc_osc.specs.declared.command.OperatingSystemCommand.TheVariants as command
use Rattle.flat_values.proofs.read_command.command.Goals as goal

pub returns-in_ok-prompt-in-Prompt-clause-ok : goal.returns-in_ok-prompt-in-Prompt-clause-ok
returns-in_ok-prompt-in-Prompt-clause-ok c =
    rw c.in-Prompt.is (ap command.FinalTermSemanticPrompt c.in_ok-prompt-in-Prompt.ensures.ok)

pub returns-in_ok-iterm-in-ITerm-clause-ok : goal.returns-in_ok-iterm-in-ITerm-clause-ok
returns-in_ok-iterm-in-ITerm-clause-ok c =
    rw c.in-ITerm.is (ap command.ITermProprietary c.in_ok-iterm-in-ITerm.ensures.ok)
