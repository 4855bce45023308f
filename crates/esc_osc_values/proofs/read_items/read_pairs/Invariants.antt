use Rattle.std.proofs.Common.{◌≡◌, ◌++◌, List, map, length}
use Rattle.std.specs.Option.{option_map}
use Rattle.esc_osc_values.specs.declared.change_color_pair.ChangeColorPair.{ChangeColorPair}
use Rattle.esc_osc_values.specs.Colors.{pairs_of}
use Rattle.esc_osc_values.proofs.read_items.read_pairs.Given as goal

abbrev pub invariant-loop-left : goal.invariant-loop-left
invariant-loop-left g l =
    pairs_of (map (λ p. p.now) l.fn.args)
    ≡ option_map (λ (more : List ChangeColorPair). l.made.items ++ more)
    (pairs_of (map (λ p. p.now) l.left))

abbrev pub decreases-loop-left : goal.decreases-loop-left
decreases-loop-left g l = length l.left
