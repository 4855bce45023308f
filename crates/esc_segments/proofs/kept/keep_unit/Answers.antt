use Rattle.std.proofs.Common.{drop, sym, subst, arith}
use Rattle.esc_segments.specs.Parts.{IsLeft}
use Rattle.esc_segments.proofs.KeptUnits.{first_high, first_low, first_middle, first_text}
use Rattle.esc_segments.proofs.kept.keep_unit.Goals as goal

pub returns-in_ok-push-in-32-to-127-clause-kept : goal.returns-in_ok-push-in-32-to-127-clause-kept
returns-in_ok-push-in-32-to-127-clause-kept g c = λ after t l.
    subst (λ y. IsLeft y (drop 1 c.args.text.now) after t)
    (sym c.in_ok-push-in-32-to-127.ensures.items)
    (first_text c.args.kept.now.items c.args.text.now after t c.requires (omega arith) (omega arith)
    l)

pub returns-in-0-to-31-clause-kept : goal.returns-in-0-to-31-clause-kept
returns-in-0-to-31-clause-kept g c =
    λ after t l. first_low c.args.kept.now.items c.args.text.now after t c.requires (omega arith) l

pub returns-in-0-to-31-2-clause-kept : goal.returns-in-0-to-31-2-clause-kept
returns-in-0-to-31-2-clause-kept g c = λ after t l.
    first_middle c.args.kept.now.items c.args.text.now after t c.requires (omega arith)
    (omega arith) l

pub returns-in-0-to-31-3-clause-kept : goal.returns-in-0-to-31-3-clause-kept
returns-in-0-to-31-3-clause-kept g c = λ after t l.
    first_high c.args.kept.now.items c.args.text.now after t c.requires (omega arith) l
