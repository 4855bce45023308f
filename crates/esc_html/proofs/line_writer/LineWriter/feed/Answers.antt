use Rattle.std.proofs.Common.{◌≡◌, ◌-◌, ◌++◌, get_or, Some, None, take, refl, ap, ◌∙◌, subst, arith}
use Rattle.std.proofs.lemmas.Str.{IsCharBoundary-after_ascii}
use Rattle.memchr.specs.Find.{is_byte, IsFirstByte}
use Rattle.esc_html.specs.Lines.{lined_page}
use Rattle.esc_html.proofs.Lines.StateOfLines.{feed_small, last_taken, line_taken, none_stay, number_taken, on_ok_both, open_taken}
use Rattle.esc_html.proofs.line_writer.LineWriter.feed.Goals as goal

pub range_from-rest-requires : goal.range_from-rest-requires
range_from-rest-requires g c = λ some.
    let rest = c.loop-at.rest.now in
    let first = subst (λ b. IsFirstByte (is_byte 0x0a) b (Some c.in-Some.at))
    c.as_bytes.ensures.value c.in-Some.ensures in
    IsCharBoundary-after_ascii rest c.in-Some.at c.loop-at.invariant.0 first.0.high
    (feed_small (get_or rest c.in-Some.at 0) first.1)

pub loop-at-init : goal.loop-at-init
loop-at-init g c =
    let v = c.args.self.now in (
      c.utf8.page,
      ap (λ x. x ++ lined_page v.number v.is_open c.args.page.now) c.clear.ensures.bytes,
      refl,
      refl,
    )

pub loop-at-smaller : goal.loop-at-smaller
loop-at-smaller g c =
    let first = subst (λ b. IsFirstByte (is_byte 0x0a) b (Some c.in-Some.at))
    c.as_bytes.ensures.value c.in-Some.ensures in
    let high = first.0.high in
    let len = c.range_from-rest.ensures.len in
    omega arith

pub loop-at-preserved : goal.loop-at-preserved
loop-at-preserved g c =
    let rest = c.loop-at.rest.now in
    let at = c.in-Some.at in
    let first = subst (λ b. IsFirstByte (is_byte 0x0a) b (Some at)) c.as_bytes.ensures.value
    c.in-Some.ensures in
    let later = c.range_from-rest.result.now in
    let v = c.loop-at.self in
    let w = c.push_line.new.self in
    let state = c.in_ok-push_line.ensures.state in
    let all_of_it : at - 0 ≡ at = omega arith in (
      c.range_from-rest.utf8,
      line_taken v w rest c.range.result.now later _ at first
          (c.range.ensures.value ∙ ap (λ n. take n rest) all_of_it)
          c.range_from-rest.ensures.value c.in_ok-push_line.ensures.ok state
          c.loop-at.invariant.1,
      number_taken v.number w.number rest later at _ first c.range_from-rest.ensures.value state.0
          c.loop-at.invariant.2,
      open_taken v.is_open w.is_open rest later at _ first c.range_from-rest.ensures.value state.1
          c.loop-at.invariant.3,
    )

pub returns-clause-given : goal.returns-clause-given
returns-clause-given g c = λ first s h.
    let rest = c.loop-at.rest.now in
    let none = subst (λ b. IsFirstByte (is_byte 0x0a) b None)
    c.as_bytes.ensures.value c.in_default.ensures in
    on_ok_both _ _ _ c.push_part.result
    (λ text state. last_taken first s c.args.page.now rest c.args.self.now c.loop-at.self
    c.push_part.new.self h (none_stay rest none) c.loop-at.invariant.1 c.loop-at.invariant.2
    c.loop-at.invariant.3 text state) c.push_part.ensures.ok c.push_part.ensures.state
