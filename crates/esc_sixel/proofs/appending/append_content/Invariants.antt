use Rattle.std.proofs.Common.{◌-◌, ◌++◌, ◌≡◌, ◌≤◌, length, take}
use Rattle.std.specs.Str.{IsAscii}
use Rattle.esc_sixel.specs.Texts.{content_text}
use Rattle.esc_sixel.proofs.appending.append_content.Given as goal

abbrev pub invariant-runs : goal.invariant-runs
invariant-runs g l = (l.at ≤ length l.content)
    × (IsAscii l.bytes × (l.text ≡ l.initial.text ++ content_text (take l.at l.content)))

abbrev pub decreases-runs : goal.decreases-runs
decreases-runs g l = length l.content - l.at
