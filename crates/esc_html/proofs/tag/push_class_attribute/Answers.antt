use Rattle.std.proofs.Common.{string_bytes}
use Rattle.esc_html.proofs.Texts.AttributesAreWhole.{classes_grow, first_next}
use Rattle.esc_html.proofs.Texts.RunsAreEscaped.{grows_then}
use Rattle.esc_html.proofs.tag.push_class_attribute.Goals as goal

pub returns-in_err-is_first-clause-grown : goal.returns-in_err-is_first-clause-grown
returns-in_err-is_first-clause-grown g c =
    grows_then (string_bytes c.args.html.now) (string_bytes c.loop-class.html)
    (string_bytes c.push_next_class.new.html) c.loop-class.invariant.2
    c.push_next_class.ensures.grown

pub loop-class-preserved : goal.loop-class-preserved
loop-class-preserved g c =
    let old = string_bytes c.args.html.now in
    let one = string_bytes c.loop-class.html in
    let two = string_bytes c.push_next_class.new.html in (
      classes_grow old one two c.loop-class.is_first c.args.classes.now c.loop-class.class-index _
          c.loop-class-test.true c.loop-class.invariant.0 c.loop-class.invariant.1
          c.in_ok-is_first.ensures.ok,
      first_next c.loop-class.is_first c.in_ok-is_first.is_first c.args.classes.now
          c.loop-class.class-index _ c.loop-class-test.true c.loop-class.invariant.1
          c.in_ok-is_first.ensures.first,
      grows_then old one two c.loop-class.invariant.2 c.push_next_class.ensures.grown,
    )

pub returns-clause-grown : goal.returns-clause-grown
returns-clause-grown g c =
    grows_then (string_bytes c.args.html.now) (string_bytes c.loop-class.html)
    (string_bytes c.end_attribute.new.html) c.loop-class.invariant.2 c.end_attribute.ensures.grown
