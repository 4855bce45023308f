use Rattle.esc_screen.specs.Printing.{narrow_put, wrapped_grid}
use Rattle.esc_screen.specs.Screens.{grid_of, size_of}
use Rattle.esc_screen.proofs.Scrolled.ChangesInTurn.{and_then}
use Rattle.esc_screen.proofs.screen.Screen.print.Goals as goal

pub returns : goal.returns
returns g c =
    let p = c.args.self.now in
    and_then (λ s. narrow_put s c.args.c) (wrapped_grid (size_of p) (grid_of p)) c.wrap.ensures
    c.put_shown.ensures
