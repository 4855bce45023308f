use Rattle.std.proofs.Common.{◌≡◌, drop, map}
use Rattle.command_line.specs.Sizes.{without_unit}
use Rattle.command_line.proofs.sizes.without_unit.Given as goal

-- the rest decides
abbrev pub invariant-loop-unit : goal.invariant-loop-unit
invariant-loop-unit l =
    without_unit (map (λ u. (u.0.now, u.1)) l.units) l.text
    ≡ without_unit (map (λ u. (u.0.now, u.1)) (drop l.unit-index l.units)) l.text
