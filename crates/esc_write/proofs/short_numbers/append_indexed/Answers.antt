use Rattle.std.proofs.Common.{◌++◌, ◌∙◌, ap, sym, arith, lit<}
use Rattle.esc_write.proofs.ShortNumbers.{indexed_one, indexed_two, indexed_three}
use Rattle.esc_write.proofs.ShortTexts.{eleven_ascii}
use Rattle.esc_write.proofs.Results.{ok_both}
use Rattle.esc_write.proofs.short_numbers.append_indexed.Goals as goal

pub returns-then-third-lt10-clause-ok : goal.returns-then-third-lt10-clause-ok
returns-then-third-lt10-clause-ok g c = ok_both _ _ c.push_str.result
    (λ h. h ∙ ap (λ t. c.args.text.now ++ t)
    (c.as_str.ensures
    ∙ sym (indexed_one c.args.numbers.first c.args.numbers.second c.args.numbers.third
    c.args.control
    (omega (arith, c.args.numbers.fits.0)) c.args.numbers.fits.1 c.args.numbers.fits.2
    c.if-third-lt10.true)))
    c.push_str.ensures.ok

pub returns-then-third-lt100-clause-ok : goal.returns-then-third-lt100-clause-ok
returns-then-third-lt100-clause-ok g c = ok_both _ _ c.push_str-then-third-lt100.result
    (λ h. h ∙ ap (λ t. c.args.text.now ++ t)
    (c.as_str-then-third-lt100.ensures
    ∙ sym (indexed_two c.args.numbers.first c.args.numbers.second c.args.numbers.third
    c.args.control
    (omega (arith, c.args.numbers.fits.0)) c.args.numbers.fits.1 c.args.numbers.fits.2
    c.if-third-lt10.false c.if-third-lt100.true)))
    c.push_str-then-third-lt100.ensures.ok

pub returns-else-third-lt100-clause-ok : goal.returns-else-third-lt100-clause-ok
returns-else-third-lt100-clause-ok g c = ok_both _ _ c.push_str-else-third-lt100.result
    (λ h. h ∙ ap (λ t. c.args.text.now ++ t)
    (c.as_str-else-third-lt100.ensures
    ∙ sym (indexed_three c.args.numbers.first c.args.numbers.second c.args.numbers.third
    c.args.control
    (omega (arith, c.args.numbers.fits.0)) c.args.numbers.fits.1 c.args.numbers.fits.2
    c.if-third-lt100.false (omega arith))))
    c.push_str-else-third-lt100.ensures.ok

pub as_str-requires-else-third-lt100 : goal.as_str-requires-else-third-lt100
as_str-requires-else-third-lt100 g c = eleven_ascii _ _ _ _ _ _ _ _ _ _ _ (lit< tt) (lit< tt)
    (omega (arith, c.args.numbers.fits.1)) (omega arith) (lit< tt)
    (omega (arith, c.args.numbers.fits.2)) (lit< tt) (omega arith) (omega arith) (omega arith)
    c.requires
