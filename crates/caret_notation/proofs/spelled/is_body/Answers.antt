use Rattle.std.proofs.Common.{◌<◌, ◌+◌, Some, length, drop, ap, sym, ◌∙◌, arith}
use Rattle.std.proofs.lemmas.List.{at_drop_more}
use Rattle.caret_notation.specs.Spelled.{is_body_after}
use Rattle.caret_notation.proofs.spelled.is_body.Goals as goal

pub returns-in-None : goal.returns-in-None
returns-in-None c =
    let bs = c.args.bytes.now in
    let at = c.loop-at.at in
    let digits = c.loop-at.digits in
    let lt : at < length bs = omega arith in
    sym (sym (c.loop-at.invariant.same)
    ∙ at_drop_more (is_body_after (Some digits)) bs at 0 lt
    ∙ ap (λ o. is_body_after o (drop (at + 1) bs)) (sym c.digits_after.ensures ∙ c.in-None.is))
