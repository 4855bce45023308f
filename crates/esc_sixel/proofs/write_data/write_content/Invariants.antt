use Rattle.std.proofs.Common.{◌-◌, ◌≤◌, length, take}
use Rattle.std.specs.Fmt.{HasWritten, IsPlainFormatter}
use Rattle.std.specs.Str.{IsAscii}
use Rattle.esc_sixel.specs.Texts.{content_text}
use Rattle.esc_sixel.proofs.write_data.write_content.Given as goal

abbrev pub invariant-runs : goal.invariant-runs
invariant-runs g l = (l.at ≤ length l.content)
    × (IsAscii l.bytes
    × (IsPlainFormatter l.initial.f
    → HasWritten g.W.Write.write_str_gives l.initial.f (content_text (take l.at l.content)) l.f))

abbrev pub decreases-runs : goal.decreases-runs
decreases-runs g l = length l.content - l.at
