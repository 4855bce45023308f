use Rattle.std.proofs.Common.{◌≡◌, map, drop}
use Rattle.esc_values.specs.Fields.{is_bare, present_pairs}
use Rattle.esc_kitty.specs.Texts.{entry}
use Rattle.esc_kitty.proofs.write_keys.is_bare.Given as goal

-- none of the keys so far is written
abbrev pub invariant-loop-key : goal.invariant-loop-key
invariant-loop-key l =
    is_bare (present_pairs (map entry l.keys))
    ≡ is_bare (present_pairs (map entry (drop l.key-index l.keys)))
