use Rattle.std.proofs.Common.{rules, arith, ◌≡◌, Some, None, bit_or, refl, sym, ap, ◌∙◌}
use Rattle.std.specs.List.{fold, list_all}
use Rattle.command_line.specs.Given.{bit, is_among, parts, place_in}
use Rattle.command_line.proofs.Bits.{one_part, more_parts}
use Rattle.command_line.proofs.reading.bits_of.Goals as goal

pub returns-in-None : goal.returns-in-None
returns-in-None c =
    let words = c.args.words.now in
    let cut = c.in-Some.ensures.byte (omega arith) (λ w o h. h) in
    let more = more_parts c.loop-part.rest.now c.in-Some.part.now c.in-Some.more.now cut.2 cut.0
    cut.1 in
    let none : place_in words c.in-Some.part.now ≡ None = sym c.place_in.ensures ∙ c.in-None.is in
    c.loop-part.invariant.1 ∙ ap (list_all (is_among words)) more ∙ rw none refl

pub loop-part-preserved : goal.loop-part-preserved
loop-part-preserved c =
    let words = c.args.words.now in
    let cut = c.in-Some.ensures.byte (omega arith) (λ w o h. h) in
    let more = more_parts c.loop-part.rest.now c.in-Some.part.now c.in-Some.more.now cut.2 cut.0
    cut.1 in
    let some : place_in words c.in-Some.part.now ≡ Some c.in-Some-place_in.place =
    sym c.place_in.ensures ∙ c.in-Some-place_in.is in (
      search rules,
      c.loop-part.invariant.1 ∙ ap (list_all (is_among words)) more ∙ rw some refl,
      c.loop-part.invariant.2
          ∙ ap (fold (λ n p. bit_or n (bit (place_in words p))) c.loop-part.bits) more
          ∙ ap (λ n. fold (λ n p. bit_or n (bit (place_in words p)))
          (bit_or c.loop-part.bits n) (parts c.in-Some.more.now))
          (ap bit some ∙ sym c.bit-bits.ensures),
    )

pub returns-in-Some-place_in-2 : goal.returns-in-Some-place_in-2
returns-in-Some-place_in-2 c =
    let words = c.args.words.now in
    let one = one_part c.loop-part.rest.now
    (c.in_default.ensures.byte (omega arith) (λ w o h. h)) in
    let some : place_in words c.loop-part.rest.now ≡ Some c.in-Some-place_in-2.place =
    sym c.place_in-2.ensures ∙ c.in-Some-place_in-2.is in (
      c.loop-part.invariant.1 ∙ ap (list_all (is_among words)) one ∙ rw some refl,
      sym (c.loop-part.invariant.2
          ∙ ap (fold (λ n p. bit_or n (bit (place_in words p))) c.loop-part.bits) one
          ∙ ap (bit_or c.loop-part.bits) (ap bit some ∙ sym c.bit.ensures)),
    )

pub returns-in-None-place_in : goal.returns-in-None-place_in
returns-in-None-place_in c =
    let words = c.args.words.now in
    let one = one_part c.loop-part.rest.now
    (c.in_default.ensures.byte (omega arith) (λ w o h. h)) in
    let none : place_in words c.loop-part.rest.now ≡ None =
    sym c.place_in-2.ensures ∙ c.in-None-place_in.is in
    c.loop-part.invariant.1 ∙ ap (list_all (is_among words)) one ∙ rw none refl
