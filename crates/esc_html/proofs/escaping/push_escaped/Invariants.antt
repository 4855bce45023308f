use Rattle.std.proofs.Common.{◌≡◌, ◌++◌, string_bytes, length}
use denote.Text.{Utf8}
use denote.Shadow.{shadow}
use Rattle.std.specs.List.{flat_map}
use Rattle.esc_html.specs.Growing.{Grows}
use Rattle.esc_html.specs.PageParts.{escape}
use Rattle.esc_html.proofs.escaping.push_escaped.Given as goal

abbrev pub invariant-loop-at : goal.invariant-loop-at
invariant-loop-at g l =
    shadow (Utf8 l.rest)
    × (string_bytes l.html ++ flat_map (escape l.fn.mark) l.rest
    ≡ string_bytes l.fn.html ++ flat_map (escape l.fn.mark) l.fn.more)
    × Grows (string_bytes l.fn.html) (string_bytes l.html)

abbrev pub decreases-loop-at : goal.decreases-loop-at
decreases-loop-at g l = length l.rest
