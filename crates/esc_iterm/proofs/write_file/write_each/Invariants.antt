use Rattle.std.proofs.Common.{◌≡◌, map, take}
use Rattle.std.specs.Fmt.{HasWritten, IsPlainFormatter}
use Rattle.esc_values.specs.Clear.{semicolon_list}
use Rattle.esc_iterm.specs.FileKeys.{entry}
use Rattle.esc_iterm.specs.Files.{key_slices}
use Rattle.esc_iterm.proofs.KeysWritten.{is_nothing}
use Rattle.esc_iterm.proofs.write_file.write_each.Given as goal

-- the keys so far are written
abbrev pub invariant-loop-key : goal.invariant-loop-key
invariant-loop-key g l =
    (l.is_first ≡ is_nothing (key_slices (map entry (take l.key-index l.keys))))
    × (IsPlainFormatter l.initial.f
    → HasWritten g.W.Write.write_str_gives l.initial.f
    (semicolon_list (key_slices (map entry (take l.key-index l.keys)))) l.f)
