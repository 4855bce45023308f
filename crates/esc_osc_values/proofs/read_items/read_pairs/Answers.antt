use Rattle.std.proofs.Common.{Some, sym, ap, ◌∙◌, arith, append-nil}
use Rattle.esc_osc_values.proofs.Parts.{pairs_end}
use Rattle.esc_osc_values.proofs.read_items.read_pairs.Goals as goal

pub returns-clause-ok : goal.returns-clause-ok
returns-clause-ok g c =
    ap Some (c.from_vec.ensures ∙ sym (append-nil _))
    ∙ sym (rw (pairs_end (λ p. p.now) c.loop-left.left.now (omega arith)) at c.loop-left.invariant)
