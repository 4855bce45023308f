use Rattle.std.proofs.Common.{ap, ◌∙◌}
use Rattle.esc_screen.specs.Printing.{grid_with_room, grid_with_character}
use Rattle.esc_screen.specs.Screens.{grid_of, size_of}
use Rattle.esc_screen.proofs.Scrolled.ChangesInTurn.{and_then}
use Rattle.esc_screen.proofs.screen.Screen.put_shown.Goals as goal

pub returns : goal.returns
returns g c =
    let s = size_of c.args.self.now in
    let o = grid_with_room s 1 (grid_of c.args.self.now) in
    let k = and_then (λ s. grid_with_character s c.shown-shown.result) o c.open.ensures
    c.put.ensures in
    record {
      grid = k.grid ∙ ap (λ x. grid_with_character s x o) c.shown-shown.ensures;
      size = k.size;
    }
