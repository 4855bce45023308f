use Rattle.std.proofs.Common.{◌≡◌, ◌++◌, string_bytes, take}
use Rattle.esc_html.specs.Attributes.{begun_styles, is_empty}
use Rattle.esc_html.specs.Growing.{Grows}
use Rattle.esc_style.specs.Looks.{values_of}
use Rattle.esc_html.proofs.tag.push_style_attribute.Given as goal

abbrev pub invariant-loop-style : goal.invariant-loop-style
invariant-loop-style g l =
    (string_bytes l.html ≡ string_bytes l.fn.html
    ++ begun_styles (values_of (take l.style-index l.fn.styles)))
    × (l.is_first ≡ is_empty (values_of (take l.style-index l.fn.styles)))
    × Grows (string_bytes l.fn.html) (string_bytes l.html)
