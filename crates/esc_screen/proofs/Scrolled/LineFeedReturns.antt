-- A line feed that returns.
use Rattle.std.proofs.Common.{◌≡◌, ◌+◌, ◌-◌, ◌==◌, ◌||◌, min, Bool, true, false, if◌then◌else◌, refl, ap, sym, ◌∙◌}
use Rattle.esc_screen.specs.Changes.{next_row}
use Rattle.esc_screen.specs.Grids.{Grid, Size, grid_at, next_line, rows_up, settled_grid}
use Rattle.esc_screen.specs.Scrolled.{ReturnsAlone}

-- from any column
next_from : (s : Size) (g : Grid) → next_line s (grid_at g.cursor.row 0 g) ≡ next_line s g
next_from s g = either (g.cursor.row + 1 == g.bottom)
  where
    as_fed : Bool → Grid → Grid
    as_fed t h = if t then rows_up 1 h.top h.bottom (settled_grid h)
        else grid_at (min (h.cursor.row + 1) (s.rows - 1)) h.cursor.column h

    next : Bool → Grid → Grid
    next t h = grid_at (as_fed t h).cursor.row 0 (as_fed t h)

    either : (t : Bool) → next t (grid_at g.cursor.row 0 g) ≡ next t g
    either true = refl
    either false = refl

pub returns_alone : ReturnsAlone
returns_alone s g h =
    let m = grid_at g.cursor.row 0 g in (
      ap (λ b. next_row s (b || g.modes.new_line) m) h ∙ next_from s g
          ∙ sym (ap (λ b. next_row s (b || g.modes.new_line) g) h),
      refl,
    )
