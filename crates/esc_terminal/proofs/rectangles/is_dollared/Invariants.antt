use Rattle.std.proofs.Common.{◌≡◌, drop}
use Rattle.esc_terminal.specs.Steps.{is_dollared}
use Rattle.esc_terminal.proofs.rectangles.is_dollared.Given as goal

-- the parameters that are left decide
abbrev pub invariant-loop-i : goal.invariant-loop-i
invariant-loop-i l = is_dollared (drop l.i l.params) ≡ is_dollared l.params
