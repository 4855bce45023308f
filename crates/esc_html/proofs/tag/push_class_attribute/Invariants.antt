use Rattle.std.proofs.Common.{◌≡◌, ◌++◌, string_bytes, take}
use Rattle.esc_html.specs.Attributes.{begun_classes, is_empty}
use Rattle.esc_html.specs.Growing.{Grows}
use Rattle.esc_style.specs.Looks.{values_of}
use Rattle.esc_html.proofs.tag.push_class_attribute.Given as goal

abbrev pub invariant-loop-class : goal.invariant-loop-class
invariant-loop-class g l =
    (string_bytes l.html ≡ string_bytes l.fn.html
    ++ begun_classes (values_of (take l.class-index l.fn.classes)))
    × (l.is_first ≡ is_empty (values_of (take l.class-index l.fn.classes)))
    × Grows (string_bytes l.fn.html) (string_bytes l.html)
