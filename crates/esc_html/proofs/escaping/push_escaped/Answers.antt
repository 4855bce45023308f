use Rattle.std.proofs.Common.{◌≡◌, ◌-◌, ◌++◌, string_bytes, Some, None, refl, sym, ap, ◌∙◌, subst, get_or, arith}
use Rattle.std.specs.List.{flat_map}
use Rattle.std.proofs.lemmas.Str.{IsCharBoundary-after_ascii}
use Rattle.memchr.specs.Find.{is_byte3, IsFirstByte}
use Rattle.esc_html.specs.PageParts.{escape}
use Rattle.esc_html.proofs.Texts.RunsAreEscaped.{escape_none, next_mark, mark_small, next_run, grows_not, grows_by, grows_moved, grows_on, grown_ok}
use Rattle.esc_html.proofs.escaping.push_escaped.Goals as goal

pub loop-at-init : goal.loop-at-init
loop-at-init g c = (c.utf8.more, refl, grows_not (string_bytes c.args.html.now))

pub returns-in_err-push_str-clause-grown : goal.returns-in_err-push_str-clause-grown
returns-in_err-push_str-clause-grown g c =
    grows_moved (string_bytes c.args.html.now) (string_bytes c.loop-at.html)
    (string_bytes c.push_str.new.text) c.loop-at.invariant.2 c.in_err-push_str.ensures.bytes

pub returns-in_err-push_str-2-clause-grown : goal.returns-in_err-push_str-2-clause-grown
returns-in_err-push_str-2-clause-grown g c =
    let before = string_bytes c.args.html.now in
    let one = string_bytes c.push_str.new.text in
    grows_moved before one (string_bytes c.push_str-in-Some.new.text)
    (grows_by before (string_bytes c.loop-at.html) one c.range.result.now c.loop-at.invariant.2
    c.range.utf8 c.in_ok-push_str.ensures.bytes) c.in_err-push_str-2.ensures.bytes

pub range_from-rest-requires : goal.range_from-rest-requires
range_from-rest-requires g c = λ some.
    let rest = c.loop-at.rest.now in
    let first = subst (λ b. IsFirstByte (is_byte3 0x26 0x3c c.args.mark) b (Some c.in-Some.at))
    c.as_bytes.ensures.value c.in-Some.ensures in
    IsCharBoundary-after_ascii rest c.in-Some.at c.loop-at.invariant.0 first.0.high
    (mark_small c.args.mark (get_or rest c.in-Some.at 0) c.requires first.1)

pub loop-at-smaller : goal.loop-at-smaller
loop-at-smaller g c =
    let first = subst (λ b. IsFirstByte (is_byte3 0x26 0x3c c.args.mark) b (Some c.in-Some.at))
    c.as_bytes.ensures.value c.in-Some.ensures in
    let high = first.0.high in
    let len = c.range_from-rest.ensures.len in
    omega arith

pub loop-at-preserved : goal.loop-at-preserved
loop-at-preserved g c =
    let first = subst (λ b. IsFirstByte (is_byte3 0x26 0x3c c.args.mark) b (Some c.in-Some.at))
    c.as_bytes.ensures.value c.in-Some.ensures in
    let before = string_bytes c.args.html.now in
    let old = string_bytes c.loop-at.html in
    let one = string_bytes c.push_str.new.text in
    let two = string_bytes c.push_str-in-Some.new.text in
    let f = escape c.args.mark in
    let run = c.range.result.now in
    let name = c.reference.result.now in
    let all_of_it : c.in-Some.at - 0 ≡ c.in-Some.at = omega arith in (
      c.range_from-rest.utf8,
      next_run old one two before (flat_map f c.args.more.now) run name
          c.range_from-rest.result.now f c.loop-at.rest.now c.loop-at.invariant.1
          c.in_ok-push_str.ensures.bytes c.in_ok-push_str-2.ensures.bytes
          (rw (
            c.range.ensures.value,
            c.reference.ensures,
            c.as_bytes-in-Some.ensures.value,
            c.range_from-rest.ensures.value,
            all_of_it,
          )
          (next_mark c.args.mark c.loop-at.rest.now c.in-Some.at first)),
      grows_by before one two name
          (grows_by before old one run c.loop-at.invariant.2 c.range.utf8
          c.in_ok-push_str.ensures.bytes) c.reference.utf8 c.in_ok-push_str-2.ensures.bytes,
    )

pub returns-clause-ok : goal.returns-clause-ok
returns-clause-ok g c =
    let rest = c.loop-at.rest.now in
    let old = string_bytes c.loop-at.html in
    let none = subst (λ b. IsFirstByte (is_byte3 0x26 0x3c c.args.mark) b None)
    c.as_bytes.ensures.value c.in_default.ensures in
    grown_ok c.push_str-2.result old (string_bytes c.push_str-2.new.text) rest
    (string_bytes c.args.html.now ++ flat_map (escape c.args.mark) c.args.more.now)
    c.push_str-2.ensures.bytes
    (ap (λ y. old ++ y) (sym (escape_none c.args.mark rest none)) ∙ c.loop-at.invariant.1)

pub returns-clause-grown : goal.returns-clause-grown
returns-clause-grown g c =
    grows_on c.push_str-2.result (string_bytes c.args.html.now) (string_bytes c.loop-at.html)
    (string_bytes c.push_str-2.new.text) c.loop-at.rest.now c.loop-at.invariant.2
    c.loop-at.invariant.0 c.push_str-2.ensures.bytes
