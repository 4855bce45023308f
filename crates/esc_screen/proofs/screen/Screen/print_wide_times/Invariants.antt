use Rattle.std.proofs.Common.{◌≡◌}
use Rattle.esc_screen.specs.Lists.{times}
use Rattle.esc_screen.specs.Printing.{wide_printed}
use Rattle.esc_screen.specs.Screens.{grid_of, size_of}
use Rattle.esc_screen.proofs.screen.Screen.print_wide_times.Given as goal

abbrev pub invariant-loop : goal.invariant-loop
invariant-loop g l = (size_of l.self ≡ size_of l.fn.self)
    × (grid_of l.self
    ≡ times l.counter (wide_printed (size_of l.fn.self) l.fn.c) (grid_of l.fn.self))
