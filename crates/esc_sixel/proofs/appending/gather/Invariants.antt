use Rattle.std.proofs.Common.{◌-◌, ◌≡◌, ◌≤◌, length, take}
use Rattle.std.specs.Str.{IsAscii}
use Rattle.esc_sixel.specs.Texts.{content_text}
use Rattle.esc_sixel.proofs.appending.gather.Given as goal

abbrev pub invariant-items : goal.invariant-items
invariant-items l = (l.count ≤ length l.content)
    × ((l.end ≤ 128)
    × (IsAscii l.bytes × (take l.end l.bytes ≡ content_text (take l.count l.content))))

abbrev pub decreases-items : goal.decreases-items
decreases-items l = length l.content - l.count
