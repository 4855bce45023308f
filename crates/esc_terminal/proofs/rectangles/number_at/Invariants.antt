use Rattle.std.proofs.Common.{◌≡◌, drop}
use Rattle.esc_terminal.specs.Steps.{number_at}
use Rattle.esc_terminal.proofs.rectangles.number_at.Given as goal

-- the parameters that are left decide
abbrev pub invariant-loop-i : goal.invariant-loop-i
invariant-loop-i l = number_at l.left (drop l.i l.params) ≡ number_at l.fn.at l.params
