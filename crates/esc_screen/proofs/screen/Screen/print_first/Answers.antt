use Rattle.std.proofs.Common.{get_or, ◌∙◌}
use Rattle.esc_screen.specs.Printing.{narrow_put, wrapped_grid}
use Rattle.esc_screen.specs.Screens.{grid_of, size_of}
use Rattle.esc_screen.proofs.Printing.RunsOfCharacters.{first_is}
use Rattle.esc_screen.proofs.Scrolled.ChangesInTurn.{and_then}
use Rattle.esc_screen.proofs.screen.Screen.print_first.Goals as goal

pub returns-else-count-gt0-clause-grid : goal.returns-else-count-gt0-clause-grid
returns-else-count-gt0-clause-grid g c =
    let s = size_of c.args.self.now in
    let h = grid_of c.args.self.now in
    let t = c.args.text.now in
    let k = and_then (λ s. narrow_put s (get_or t 0 0)) (wrapped_grid s h) c.wrap.ensures
    c.put_shown.ensures in
    record {
      grid = k.grid ∙ first_is s h t 0 c.requires;
      size = k.size;
    }
