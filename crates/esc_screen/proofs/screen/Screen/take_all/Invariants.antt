use Rattle.std.proofs.Common.{◌≡◌, drop}
use Rattle.esc_screen.specs.Screens.{grid_of, size_of}
use Rattle.esc_screen.specs.Steps.{grid_from}
use Rattle.esc_screen.proofs.screen.Screen.take_all.Given as goal

-- the steps that are left decide
abbrev pub invariant-loop-step : goal.invariant-loop-step
invariant-loop-step g l = (size_of l.self ≡ size_of l.fn.self)
    × (grid_from (size_of l.fn.self) (grid_of l.self) (drop l.step-index l.steps)
    ≡ grid_from (size_of l.fn.self) (grid_of l.fn.self) l.steps)
