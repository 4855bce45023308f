use Rattle.std.proofs.Common.{◌≡◌, ◌++◌, map, drop}
use Rattle.std.specs.Option.{option_map}
use Rattle.esc_values.specs.Cuts.{Pairs, pairs_in}
use Rattle.esc_kitty.specs.Keys.{pairs}
use Rattle.esc_kitty.proofs.keys.read_slices.Given as goal

-- the result has the pairs of the slices so far, and those of the rest
abbrev pub invariant-loop-slice : goal.invariant-loop-slice
invariant-loop-slice g l =
    pairs_in (map (λ p. p.now) l.slices)
    ≡ option_map (λ (more : Pairs). pairs l.pairs.items ++ more)
    (pairs_in (map (λ p. p.now) (drop l.slice-index l.slices)))
