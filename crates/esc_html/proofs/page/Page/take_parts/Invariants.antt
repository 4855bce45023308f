use Rattle.std.proofs.Common.{◌≡◌, length}
use denote.Text.{Utf8}
use denote.Shadow.{shadow}
use Rattle.std.specs.List.{filter}
use Rattle.esc_html.specs.Fed.{is_visible, with_text}
use Rattle.esc_html.proofs.page.Page.take_parts.Given as goal

abbrev pub invariant-loop-at : goal.invariant-loop-at
invariant-loop-at g l =
    shadow (Utf8 l.rest)
    × (with_text l.self (filter is_visible l.rest)
    ≡ with_text l.fn.self (filter is_visible l.fn.run))

abbrev pub decreases-loop-at : goal.decreases-loop-at
decreases-loop-at g l = length l.rest
