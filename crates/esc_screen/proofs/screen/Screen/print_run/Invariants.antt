use Rattle.std.proofs.Common.{◌≡◌, length, map}
use Rattle.esc_screen.specs.Screens.{grid_of, size_of}
use Rattle.esc_screen.specs.Steps.{grid_from}
use Rattle.esc_screen.specs.declared.step.Step.TheVariants as step
use Rattle.esc_screen.proofs.screen.Screen.print_run.Given as goal

-- the characters that are left decide
abbrev pub invariant-loop-rest : goal.invariant-loop-rest
invariant-loop-rest g l = (size_of l.self ≡ size_of l.fn.self)
    × (grid_from (size_of l.fn.self) (grid_of l.self) (map step.Print l.rest)
    ≡ grid_from (size_of l.fn.self) (grid_of l.fn.self) (map step.Print l.fn.text))

abbrev pub decreases-loop-rest : goal.decreases-loop-rest
decreases-loop-rest g l = length l.rest
