use Rattle.std.proofs.Common.{rules, ◌≡◌, ◌++◌, IfSome, ap, sym, subst, ◌∙◌}
use Rattle.std.proofs.lemmas.Bool.{true≢false}
use Rattle.std.specs.Global.{Global}
use Rattle.esc_sixel.specs.Writable.{IsWritable}
use Rattle.esc_sixel.specs.declared.sixel.Sixel.{Sixel}
use Rattle.esc_calls.proofs.SixelsWritten.{none_writable, sixel_written}
use Rattle.esc_values.specs.Clear.{string_terminator}
use Rattle.esc_calls.specs.WrittenSixels.{HasSixel, sixel_string}
use Rattle.esc_calls.proofs.write_sixel.written.Goals as goal

pub returns-then-not-is_writable-clause-refused : goal.returns-then-not-is_writable-clause-refused
returns-then-not-is_writable-clause-refused c =
    let v = c.args.value.now in
    let rs = c.args.rows.now in
    let has : HasSixel v rs c.in-Some.sixel =
    subst (λ o. IfSome o (HasSixel v rs)) c.in-Some.is c.in_ok-sixel.ensures.has in
    let unwritable : (s : Sixel Global) → IsWritable s → HasSixel v rs s → ⊥ =
    none_writable v rs c.in-Some.sixel has (λ writable.
    true≢false (sym (c.is_writable.ensures.1 writable) ∙ c.if-not-is_writable.true)) in
    search (rules, unwritable)

pub returns-clause-text : goal.returns-clause-text
returns-clause-text c =
    let v = c.args.value.now in
    let rs = c.args.rows.now in
    let has : HasSixel v rs c.in-Some.sixel =
    subst (λ o. IfSome o (HasSixel v rs)) c.in-Some.is c.in_ok-sixel.ensures.has in
    let it = sixel_written v rs c.in-Some.sixel has
    (c.is_writable.ensures.0 c.if-not-is_writable.false) in
    let text_is : c.in_ok-display.field-0 ≡ sixel_string it.0 it.1 =
    subst (λ o. IfSome o (λ t. c.in_ok-display.field-0 ≡ t)) it.2.output
    c.in_ok-display.ensures.text in (
      c.in-Some.sixel,
      it.0,
      it.1,
      it.2,
      c.in_ok-ended.ensures.text ∙ ap (λ x. x ++ string_terminator) text_is,
    )
