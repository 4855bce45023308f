use Rattle.std.proofs.Common.{drop, length, sym, subst}
use Rattle.esc_segments.specs.Parts.{IsLeft}
use Rattle.esc_segments.proofs.KeptUnits.{left_broken, left_control, left_pending, left_whole}
use Rattle.esc_segments.proofs.kept.keep_sequence.Goals as goal

pub returns-in_ok-extend-in-Whole-clause-kept : goal.returns-in_ok-extend-in-Whole-clause-kept
returns-in_ok-extend-in-Whole-clause-kept g c = λ after t l.
    let text = c.args.text.now in
    subst (λ y. IsLeft y (drop c.in-Whole.count text) after t)
    (sym c.in_ok-extend-in-Whole.ensures.items)
    (left_whole c.args.kept.now.items text after t c.in-Whole.count c.in-Whole.ensures l)

pub returns-in_ok-extend-in-Broken-clause-kept : goal.returns-in_ok-extend-in-Broken-clause-kept
returns-in_ok-extend-in-Broken-clause-kept g c = λ after t l.
    let text = c.args.text.now in
    subst (λ y. IsLeft y (drop c.in-Broken.count text) after t)
    (sym c.in_ok-extend-in-Broken.ensures.items)
    (left_broken c.args.kept.now.items text after t c.in-Broken.count c.in-Broken.ensures l)

pub returns-in_ok-extend-in-Pending-clause-kept : goal.returns-in_ok-extend-in-Pending-clause-kept
returns-in_ok-extend-in-Pending-clause-kept g c = λ after t l.
    let text = c.args.text.now in
    subst (λ y. IsLeft y (drop (length text) text) after t)
    (sym c.in_ok-extend-in-Pending.ensures.items)
    (left_pending c.args.kept.now.items text after t c.in-Pending.ensures l)

pub returns-in-Control-clause-kept : goal.returns-in-Control-clause-kept
returns-in-Control-clause-kept g c = λ after t l.
    absurd (left_control c.args.kept.now.items c.args.text.now after t _ c.in-Control.ensures l)
