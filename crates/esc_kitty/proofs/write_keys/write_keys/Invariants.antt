use Rattle.std.proofs.Common.{◌≡◌, map, take}
use Rattle.std.specs.Fmt.{HasWritten, IsPlainFormatter}
use Rattle.esc_values.specs.Fields.{is_bare, present_pairs}
use Rattle.esc_kitty.specs.Texts.{entry, keys_text}
use Rattle.esc_kitty.proofs.write_keys.write_keys.Given as goal

-- the keys so far are written
abbrev pub invariant-loop-key : goal.invariant-loop-key
invariant-loop-key g l =
    (l.is_first ≡ is_bare (present_pairs (map entry (take l.key-index l.keys))))
    × (IsPlainFormatter l.initial.f
    → HasWritten g.W.Write.write_str_gives l.initial.f
    (keys_text (present_pairs (map entry (take l.key-index l.keys)))) l.f)
