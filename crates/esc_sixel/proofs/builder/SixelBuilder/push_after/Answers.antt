use Rattle.std.proofs.Common.{sym, refl, ◌∙◌}
use Rattle.esc_sixel.proofs.Bytes.OneByteMore.{closed_next, closed_digit}
use Rattle.esc_sixel.proofs.Runs.ClassOfDigit.{digit_is, digit_small, next_is}
use Rattle.esc_sixel.proofs.builder.SixelBuilder.push_after.Goals as goal

pub digit-requires : goal.digit-requires
digit-requires g c =
    digit_small c.args.byte c.in-Digit.digit (sym c.classify.ensures ∙ c.in-Digit.is)

pub returns-in-Digit-clause-ok : goal.returns-in-Digit-clause-ok
returns-in-Digit-clause-ok g c = λ r h.
    let is = sym c.classify.ensures ∙ c.in-Digit.is in
    rw (
      is,
      closed_digit c.args.introducer r c.in-Digit.digit c.args.byte,
      digit_is c.args.byte c.in-Digit.digit is,
    )
    (refl, (h.0, c.digit.ensures r h.1))

pub returns-in-Separator-clause-ok : goal.returns-in-Separator-clause-ok
returns-in-Separator-clause-ok g c = λ r h.
    let is = sym c.classify.ensures ∙ c.in-Separator.is in
    rw (is, closed_next c.args.introducer r c.args.byte, next_is c.args.byte is) (
      refl,
      (h.0, c.separator.ensures r h.1),
    )

pub returns-in-Pixels-clause-ok : goal.returns-in-Pixels-clause-ok
returns-in-Pixels-clause-ok g c = λ r h.
    rw (sym c.classify.ensures ∙ c.in-Pixels.is) (c.end_before_pixels.ensures.ok r c.args.byte h.1)
