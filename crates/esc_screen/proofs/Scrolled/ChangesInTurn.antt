-- Changes of a screen, one after another.
use Rattle.std.proofs.Common.{ap, ◌∙◌}
use Rattle.esc_screen.specs.Grids.{Grid, Size}
use Rattle.esc_screen.specs.Screens.{Becomes, grid_of, size_of}
use Rattle.esc_screen.specs.declared.screen.Screen.{Screen}

pub and_then : {A : Type 0} {p q r : Screen A} (f : Size → Grid → Grid) (g : Grid)
    → Becomes p g q → Becomes q (f (size_of q) (grid_of q)) r → Becomes p (f (size_of p) g) r
and_then {p = p} {q = q} f g h k = record {
  grid = k.grid ∙ ap (λ z. f z (grid_of q)) h.size ∙ ap (f (size_of p)) h.grid;
  size = k.size ∙ h.size;
}
