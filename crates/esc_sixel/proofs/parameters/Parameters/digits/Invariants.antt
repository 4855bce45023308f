use Rattle.std.proofs.Common.{◌-◌, ◌≡◌, ◌≤◌, None, get_or, length, take}
use Rattle.std.specs.List.{All}
use Rattle.std.specs.Option.{unwrap_or}
use Rattle.esc_sixel.specs.Classes.{IsDigit}
use Rattle.esc_sixel.specs.Lines.{number_after}
use Rattle.esc_sixel.proofs.parameters.Parameters.digits.Given as goal

-- the digits so far are in the number
abbrev pub invariant-loop-end : goal.invariant-loop-end
invariant-loop-end l = record {
  within : l.end ≤ length l.rest;
  digits : All IsDigit (take l.end l.rest);
  number : l.number ≡ number_after (unwrap_or (get_or l.self.values l.self.count None) 0)
      (take l.end l.rest);
}

abbrev pub decreases-loop-end : goal.decreases-loop-end
decreases-loop-end l = length l.rest - l.end
