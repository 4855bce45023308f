use Rattle.std.proofs.Common.{sym, subst, arith}
use Rattle.esc_frame.specs.declared.classes.Kind.TheVariants as kind
use Rattle.esc_segments.specs.Places.{IsOpened}
use Rattle.esc_segments.proofs.Texts.{kept_more, osc_rung, osc_broken, osc_waits, osc_pending}
use Rattle.esc_segments.proofs.text.osc.Goals as goal

pub loop-end-preserved : goal.loop-end-preserved
loop-end-preserved c =
    let so = c.loop-end.invariant in
    let k = kept_more c.args.text.now c.loop-end.end so.0 so.1 c.in-Kept.count c.in-Kept.ensures in
    (k.1, k.0)

pub returns-in-Bell-clause-found : goal.returns-in-Bell-clause-found
returns-in-Bell-clause-found c =
    let so = c.loop-end.invariant in
    subst (λ x. IsOpened kind.Osc c.args.text.now x) (sym c.finished.ensures)
    (osc_rung c.args.text.now c.loop-end.end so.0 so.1 c.in-Bell.ensures)

pub returns-in-Breaker-clause-found : goal.returns-in-Breaker-clause-found
returns-in-Breaker-clause-found c =
    let so = c.loop-end.invariant in
    subst (λ x. IsOpened kind.Osc c.args.text.now x) (sym c.finished-in-Breaker.ensures)
    (osc_broken c.args.text.now c.loop-end.end so.0 so.1 c.in-Breaker.ensures)

pub returns-in-Pending-clause-found : goal.returns-in-Pending-clause-found
returns-in-Pending-clause-found c =
    let so = c.loop-end.invariant in
    subst (λ x. IsOpened kind.Osc c.args.text.now x) (sym c.unfinished.ensures)
    (osc_waits c.args.text.now c.loop-end.end so.0 so.1 c.in-Pending.ensures)

pub returns-clause-found : goal.returns-clause-found
returns-clause-found c =
    let so = c.loop-end.invariant in
    subst (λ x. IsOpened kind.Osc c.args.text.now x) (sym c.unfinished-2.ensures)
    (osc_pending c.args.text.now c.loop-end.end so.0 so.1 (omega (arith, so.0)))
