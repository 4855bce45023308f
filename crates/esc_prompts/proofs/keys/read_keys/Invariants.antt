use Rattle.std.proofs.Common.{◌≡◌, List, ℕ, map, drop, codes, Option}
use Rattle.std.specs.Option.{option_map}
use Rattle.esc_values.specs.Cuts.{Pairs, pairs_in, without_empty, last_value}
use Rattle.esc_prompts.specs.Pairs.{KeyValues, keys_of}
use Rattle.esc_prompts.proofs.keys.read_keys.Given as goal

-- the values found so far, replaced by the last ones among these
abbrev found_then : (aid cl k : Option (List ℕ)) → Pairs → KeyValues
found_then aid cl k es = record {
  aid = last_value (codes "aid") aid es;
  cl = last_value (codes "cl") cl es;
  k = last_value (codes "k") k es;
}

abbrev pub invariant-loop-part : goal.invariant-loop-part
invariant-loop-part l =
    option_map (found_then (option_map (λ t. t.now) l.aid) (option_map (λ t. t.now) l.cl)
    (option_map (λ t. t.now) l.k))
    (pairs_in (without_empty (map (λ p. p.now) (drop l.part-index l.args))))
    ≡ keys_of (map (λ p. p.now) l.args)
