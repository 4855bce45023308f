use Rattle.esc_screen.specs.Printing.{grid_with_room, printed_wide, wrapped_wide}
use Rattle.esc_screen.specs.Screens.{grid_of, size_of}
use Rattle.esc_screen.proofs.Scrolled.ChangesInTurn.{and_then}
use Rattle.esc_screen.proofs.screen.Screen.put_wide_next.Goals as goal

pub returns : goal.returns
returns g c =
    let s = size_of c.args.self.now in
    let w = wrapped_wide s (grid_of c.args.self.now) in
    and_then (λ s. printed_wide s c.args.c) (grid_with_room s 2 w)
    (and_then (λ s. grid_with_room s 2) w c.wrap_wide.ensures c.open.ensures) c.put_wide.ensures
