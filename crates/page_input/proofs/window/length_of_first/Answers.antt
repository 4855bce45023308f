use Rattle.std.proofs.Common.{None, Some, arith, length-drop, subst}
use Rattle.memchr.specs.Find.{IsFirstByte, is_byte}
use Rattle.page_input.proofs.Lines.{all_first, done_first, first_taken, rest_all}
use Rattle.page_input.proofs.window.length_of_first.Goals as goal

pub returns-in_default-clause-first : goal.returns-in_default-clause-first
returns-in_default-clause-first c =
    let s = c.args.bytes.now in
    all_first c.loop-left.left c.loop-left.end s _ c.loop-left-test.true
    (subst (λ x. IsFirstByte (is_byte 0x0a) x None) (rest_all c.loop-left.end s)
    c.in_default.ensures)
    c.loop-left.invariant.1

pub loop-left-preserved : goal.loop-left-preserved
loop-left-preserved c =
    let s = c.args.bytes.now in
    let at = c.in-Some.at in
    let f = subst (λ x. IsFirstByte (is_byte 0x0a) x (Some at)) (rest_all c.loop-left.end s)
    c.in-Some.ensures in
    let high = f.0.high in (
      omega (arith, high, c.loop-left.invariant.0, length-drop c.loop-left.end s),
      first_taken c.loop-left.left c.loop-left.end at s _ c.loop-left-test.true f
          c.loop-left.invariant.1,
    )

pub returns-clause-first : goal.returns-clause-first
returns-clause-first c =
    done_first c.loop-left.left c.loop-left.end c.args.bytes.now _ c.loop-left-test.false
    c.loop-left.invariant.1
