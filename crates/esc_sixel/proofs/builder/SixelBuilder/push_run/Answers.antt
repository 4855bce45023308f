use Rattle.std.proofs.Common.{subst, sym, arith, take}
use Rattle.std.proofs.lemmas.List.{take_all}
use Rattle.std.specs.List.{FoldsTo}
use Rattle.esc_sixel.specs.Steps.{Pushes}
use Rattle.esc_sixel.proofs.Bytes.ManyBytes.{folds_more, on_err, run_leads}
use Rattle.esc_sixel.proofs.builder.SixelBuilder.push_run.Goals as goal

pub returns-in_err-at-clause-err : goal.returns-in_err-at-clause-err
returns-in_err-at-clause-err g c =
    on_err c.from_residual-in_err-at.result (
      c.loop-at.at,
      omega arith,
      subst (FoldsTo Pushes c.args.self.now (take c.loop-at.at c.args.bytes.now))
          (sym c.in_err-at.ensures.err) c.loop-at.invariant.1,
    )

pub loop-at-preserved : goal.loop-at-preserved
loop-at-preserved g c =
    let taken = c.in_ok-at.ensures.ok in (
      omega (arith, taken.few),
      folds_more Pushes c.args.self.now c.args.bytes.now c.loop-at.at _ c.loop-at.self _
          c.loop-at.invariant.1 taken.pushes,
    )

pub returns-clause-ok : goal.returns-clause-ok
returns-clause-ok g c = λ ps s h.
    run_leads ps s c.args.bytes.now c.args.self.now c.loop-at.self
    (subst (λ t. FoldsTo Pushes c.args.self.now t c.loop-at.self)
    (take_all c.loop-at.at c.args.bytes.now (omega arith)) c.loop-at.invariant.1) h
