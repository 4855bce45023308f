use Rattle.std.proofs.Common.{◌∷◌, length, drop, ap, arith}
use Rattle.esc_account.proofs.Entries.LineIsEntered.{last_open}
use Rattle.esc_account.proofs.first.segment_ahead.Goals as goal

pub returns-else-segment-clause-none : goal.returns-else-segment-clause-none
returns-else-segment-clause-none c = λ none.
    let s = c.args.bytes.now in
    last_open c.args.ends s (drop (length c.in-Some.segment.bytes.now) s) c.in-Some.segment
    c.in-Some.ensures.first c.if-segment.false

pub returns-in-None-clause-none : goal.returns-in-None-clause-none
returns-in-None-clause-none c = λ none g gs cut some.
    absurd (omega (arith, ap length (c.in-None.ensures.first (g ∷ gs) cut)))
