-- Equal sixel images are the same.
use Rattle.std.specs.Prelude.{nat_eq}
use Rattle.std.specs.Option.{option_eq}
use Rattle.std.specs.Ordering.{int_eq}
use Rattle.std.specs.declared.alloc.Allocator.{Ghosts}
use denote.RattleType.{RattleType}
use mir.Syntax.{Dict}
use Rattle.std.proofs.Common.{rules, refl}
use Rattle.esc_sixel.specs.contracts.sixel.SixelPartialEq.TheImpl as sixel_eq
use Rattle.esc_sixel.specs.contracts.sixel_data.SixelDataPartialEq.TheImpl as data_eq
use Rattle.esc_equality.proofs.Same.{IsSame, bools, both, integers, lists, numbers, options}

data_same : IsSame data_eq.ghosts.eq
data_same a b = search rules

sizes : IsSame (option_eq nat_eq)
sizes = options nat_eq numbers

grids : IsSame (option_eq int_eq)
grids = options int_eq integers

pub sixels : (T : RattleType) (G : Ghosts T.Denot) (x y : Dict)
    → IsSame (sixel_eq.ghosts T G x y).eq
sixels T G x y a b =
    let parts = both (integers a.pan b.pan)
    (both (integers a.pad b.pad) (both (sizes a.pixel_width b.pixel_width)
    (both (sizes a.pixel_height b.pixel_height)
    (both (bools a.background_is_transparent b.background_is_transparent)
    (both (grids a.horizontal_grid_size b.horizontal_grid_size)
    (lists data_eq.ghosts.eq data_same a.content b.content)))))) in (
      λ h.
          let e = parts.0 h in
          λ i. record {
            pan = e.0 i;
            pad = e.1.0 i;
            pixel_width = e.1.1.0 i;
            pixel_height = e.1.1.1.0 i;
            background_is_transparent = e.1.1.1.1.0 i;
            horizontal_grid_size = e.1.1.1.1.1.0 i;
            content = e.1.1.1.1.1.1 i;
          },
      λ e. parts.1 (rw e (refl, (refl, (refl, (refl, (refl, (refl, refl))))))),
    )
