use Rattle.std.proofs.Common.{subst, arith}
use Rattle.esc_frame.specs.Segments.{text_of}
use Rattle.esc_segments.specs.Parts.{IsLeft}
use Rattle.esc_segments.proofs.KeptUnits.{left_none}
use Rattle.esc_segments.proofs.Prefixes.{at_end}
use Rattle.esc_segments.proofs.kept.kept_text.Goals as goal

pub returns-clause-ok : goal.returns-clause-ok
returns-clause-ok g c = λ ps e after w a o.
    let so = c.loop-end.invariant in
    left_none c.loop-end.kept.items after (text_of ps)
    (subst (λ y. IsLeft c.loop-end.kept.items y after (text_of ps))
    (at_end c.args.text.now c.loop-end.end (omega (arith, so.0))) (so.1 ps e after w a o))
