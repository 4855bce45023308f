use Rattle.std.proofs.Common.{◌≡◌, ◌-◌, get_or, Some, None, take, sym, ap, ◌∙◌, subst, arith}
use Rattle.std.proofs.lemmas.Str.{IsCharBoundary-after_ascii}
use Rattle.memchr.specs.Find.{is_byte, IsFirstByte}
use Rattle.esc_html.specs.Fed.{with_text}
use Rattle.esc_html.proofs.Pages.RunIsEachCharacter.{del_small, ok_same, text_next, visible_all}
use Rattle.esc_html.proofs.page.Page.take_parts.Goals as goal

pub range_from-rest-requires : goal.range_from-rest-requires
range_from-rest-requires g c = λ some.
    let rest = c.loop-at.rest.now in
    let first = subst (λ b. IsFirstByte (is_byte 0x7f) b (Some c.in-Some.at))
    c.as_bytes.ensures.value c.in-Some.ensures in
    IsCharBoundary-after_ascii rest c.in-Some.at c.loop-at.invariant.0 first.0.high
    (del_small (get_or rest c.in-Some.at 0) first.1)

pub loop-at-smaller : goal.loop-at-smaller
loop-at-smaller g c =
    let first = subst (λ b. IsFirstByte (is_byte 0x7f) b (Some c.in-Some.at))
    c.as_bytes.ensures.value c.in-Some.ensures in
    let high = first.0.high in
    let len = c.range_from-rest.ensures.len in
    omega arith

pub loop-at-preserved : goal.loop-at-preserved
loop-at-preserved g c =
    let rest = c.loop-at.rest.now in
    let first = subst (λ b. IsFirstByte (is_byte 0x7f) b (Some c.in-Some.at))
    c.as_bytes.ensures.value c.in-Some.ensures in
    let all_of_it : c.in-Some.at - 0 ≡ c.in-Some.at = omega arith in (
      c.range_from-rest.utf8,
      text_next c.loop-at.self c.show_run.new.self _ rest c.range.result.now
          c.range_from-rest.result.now c.in-Some.at first c.in_ok-show_run.ensures.ok
          (c.range.ensures.value ∙ ap (λ n. take n rest) all_of_it) c.range_from-rest.ensures.value
          c.loop-at.invariant.1,
    )

pub returns-clause-ok : goal.returns-clause-ok
returns-clause-ok g c =
    let rest = c.loop-at.rest.now in
    let none = subst (λ b. IsFirstByte (is_byte 0x7f) b None)
    c.as_bytes.ensures.value c.in_default.ensures in
    ok_same c.show_run-2.result _ _ _ c.show_run-2.ensures.ok
    (ap (with_text c.loop-at.self) (sym (visible_all rest none)) ∙ c.loop-at.invariant.1)
