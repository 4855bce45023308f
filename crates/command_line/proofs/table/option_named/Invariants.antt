use Rattle.std.proofs.Common.{◌≡◌, drop}
use Rattle.command_line.specs.Words.{option_named}
use Rattle.command_line.proofs.table.option_named.Given as goal

-- the rest decides
abbrev pub invariant-loop-option : goal.invariant-loop-option
invariant-loop-option l =
    option_named l.known l.name ≡ option_named (drop l.option-index l.known) l.name
