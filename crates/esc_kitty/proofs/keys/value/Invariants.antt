use Rattle.std.proofs.Common.{◌≡◌, [], ◌∷◌, drop}
use Rattle.std.specs.Option.{option_map}
use Rattle.esc_values.specs.Cuts.{last_value}
use Rattle.esc_kitty.specs.Keys.{pairs, values}
use Rattle.esc_kitty.proofs.keys.value.Given as goal

-- the value found so far, replaced by the last one among those that are left
abbrev pub invariant-loop-pair : goal.invariant-loop-pair
invariant-loop-pair l = last_value (l.key ∷ []) (option_map (λ v. v.now) l.found)
    (pairs (drop l.pair-index l.pairs)) ≡ values l.pairs (l.key ∷ [])
