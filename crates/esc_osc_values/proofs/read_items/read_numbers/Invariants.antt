use Rattle.std.proofs.Common.{◌≡◌, ◌++◌, List, ℕ, map, drop}
use Rattle.std.specs.Option.{option_map}
use Rattle.esc_osc_values.specs.Lists.{numbers_of}
use Rattle.esc_osc_values.proofs.read_items.read_numbers.Given as goal

abbrev pub invariant-loop-part : goal.invariant-loop-part
invariant-loop-part g l =
    numbers_of (map (λ p. p.now) l.args) ≡ option_map (λ (more : List ℕ). l.made.items ++ more)
    (numbers_of (map (λ p. p.now) (drop l.part-index l.args)))
