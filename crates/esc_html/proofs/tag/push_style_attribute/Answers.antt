use Rattle.std.proofs.Common.{string_bytes}
use Rattle.esc_html.proofs.Texts.AttributesAreWhole.{styles_grow, first_next}
use Rattle.esc_html.proofs.Texts.RunsAreEscaped.{grows_then}
use Rattle.esc_html.proofs.tag.push_style_attribute.Goals as goal

pub returns-in_err-is_first-clause-grown : goal.returns-in_err-is_first-clause-grown
returns-in_err-is_first-clause-grown g c =
    grows_then (string_bytes c.args.html.now) (string_bytes c.loop-style.html)
    (string_bytes c.push_next_style.new.html) c.loop-style.invariant.2
    c.push_next_style.ensures.grown

pub loop-style-preserved : goal.loop-style-preserved
loop-style-preserved g c =
    let old = string_bytes c.args.html.now in
    let one = string_bytes c.loop-style.html in
    let two = string_bytes c.push_next_style.new.html in (
      styles_grow old one two c.loop-style.is_first c.args.styles.now c.loop-style.style-index _
          c.loop-style-test.true c.loop-style.invariant.0 c.loop-style.invariant.1
          c.in_ok-is_first.ensures.ok,
      first_next c.loop-style.is_first c.in_ok-is_first.is_first c.args.styles.now
          c.loop-style.style-index _ c.loop-style-test.true c.loop-style.invariant.1
          c.in_ok-is_first.ensures.first,
      grows_then old one two c.loop-style.invariant.2 c.push_next_style.ensures.grown,
    )

pub returns-clause-grown : goal.returns-clause-grown
returns-clause-grown g c =
    grows_then (string_bytes c.args.html.now) (string_bytes c.loop-style.html)
    (string_bytes c.end_attribute.new.html) c.loop-style.invariant.2 c.end_attribute.ensures.grown
