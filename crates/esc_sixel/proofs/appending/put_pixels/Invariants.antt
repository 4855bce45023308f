use Rattle.std.proofs.Common.{◌+◌, ◌++◌, ◌-◌, ◌≡◌, ◌≤◌, take}
use Rattle.std.specs.Str.{IsAscii}
use Rattle.esc_sixel.specs.Texts.{content_text}
use Rattle.esc_sixel.proofs.appending.put_pixels.Given as goal

abbrev pub invariant-pixels : goal.invariant-pixels
invariant-pixels l = (l.count ≤ l.most)
    × (IsAscii l.bytes
    × (take (l.at + l.count) l.bytes
    ≡ take l.at l.initial.bytes ++ content_text (take l.count l.content)))

abbrev pub decreases-pixels : goal.decreases-pixels
decreases-pixels l = l.most - l.count
