use Rattle.std.proofs.Common.{◌≡◌, ◌≤◌, drop}
use Rattle.string_commands.specs.Strings.{number_from, number_in}
use Rattle.string_commands.proofs.strings.number_in.Given as goal

-- the rest decides
abbrev pub invariant-loop-at : goal.invariant-loop-at
invariant-loop-at l = record {
  same : number_in l.text ≡ number_from l.has_digit l.number (drop l.at l.text);
  few : l.number ≤ 999999999;
}
