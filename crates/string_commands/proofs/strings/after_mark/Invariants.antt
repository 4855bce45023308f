use Rattle.std.proofs.Common.{◌≡◌, drop}
use Rattle.string_commands.specs.Strings.{after_mark}
use Rattle.string_commands.proofs.strings.after_mark.Given as goal

-- the rest decides
abbrev pub invariant-loop-at : goal.invariant-loop-at
invariant-loop-at l = after_mark l.text ≡ after_mark (drop l.at l.text)
