use Rattle.std.proofs.Common.{◌≡◌, ◌++◌, List, map, drop}
use Rattle.std.specs.Option.{option_map}
use Rattle.esc_osc_values.specs.Colors.{colors_of}
use Rattle.esc_osc_values.specs.declared.color_or_query.ColorOrQuery.{ColorOrQuery}
use Rattle.esc_osc_values.proofs.read_items.read_colors.Given as goal

abbrev pub invariant-loop-part : goal.invariant-loop-part
invariant-loop-part g l =
    colors_of (map (λ p. p.now) l.args)
    ≡ option_map (λ (more : List ColorOrQuery). l.made.items ++ more)
    (colors_of (map (λ p. p.now) (drop l.part-index l.args)))
