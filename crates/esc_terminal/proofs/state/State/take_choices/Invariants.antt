use Rattle.std.proofs.Common.{◌≡◌}
use Rattle.typed_functions.specs.Selections.{modes_left}
use Rattle.esc_screen.specs.Screens.{grid_of, size_of}
use Rattle.esc_screen.specs.Steps.{grid_from}
use Rattle.esc_terminal.specs.Fed.{known_in, names_in, requests_in}
use Rattle.esc_terminal.specs.Steps.{choice_steps}
use Rattle.esc_terminal.proofs.state.State.take_choices.Given as goal

-- those that are left decide
abbrev pub invariant-loop-choice : goal.invariant-loop-choice
invariant-loop-choice g l = (size_of l.self.screen ≡ size_of l.fn.self.screen)
    × (grid_from (size_of l.fn.self.screen) (grid_of l.self.screen)
    (choice_steps l.fn.change (modes_left l.choice-iterator))
    ≡ grid_from (size_of l.fn.self.screen) (grid_of l.fn.self.screen)
    (choice_steps l.fn.change (modes_left l.fn.choices)))
    × (known_in l.self ≡ known_in l.fn.self) × (names_in l.self ≡ names_in l.fn.self)
    × (requests_in l.self ≡ requests_in l.fn.self)
