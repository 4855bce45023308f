use Rattle.std.proofs.Common.{take}
use Rattle.std.specs.Fmt.{HasWritten, IsPlainFormatter}
use Rattle.esc_device.specs.Texts.{private_prefixes_text}
use Rattle.esc_device.proofs.characters.MarkersDisplay.fmt.Given as goal

abbrev pub invariant-loop-byte : goal.invariant-loop-byte
invariant-loop-byte g l =
    IsPlainFormatter l.initial.f
    → HasWritten g.W.Write.write_str_gives l.initial.f
    (private_prefixes_text (take l.byte-index l.self.0.now)) l.f
