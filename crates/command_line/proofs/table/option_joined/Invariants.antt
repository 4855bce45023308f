use Rattle.std.proofs.Common.{◌≡◌, drop}
use Rattle.command_line.specs.Words.{option_joined}
use Rattle.command_line.proofs.table.option_joined.Given as goal

-- the rest decides
abbrev pub invariant-loop-option : goal.invariant-loop-option
invariant-loop-option l =
    option_joined l.known l.name l.word
    ≡ option_joined (drop l.option-index l.known) l.name l.word
