use Rattle.std.proofs.Common.{◌++◌, ◌∙◌, take, drop, length, ◌-◌, ap, subst, append_assoc, arith}
use Rattle.esc_frame.specs.Machine.Keeps.{KeepsBody}
use Rattle.esc_frame.proofs.ByteRuns.CsiRuns.{run_joins, passes_more}
use Rattle.esc_frame.proofs.ByteRuns.ManyBytes.{tail_length}
use Rattle.esc_frame.proofs.machine.escapes.push_run.Goals as goal

pub loop-end-preserved : goal.loop-end-preserved
loop-end-preserved c =
    let rest = c.args.rest.now in
    let i = c.loop-end.end in
    let n = c.push_next-end.result in
    let so = c.loop-end.invariant in
    let l = tail_length rest i in (
      omega (arith, c.push_next-end.ensures.count),
      passes_more rest i n so.1 c.push_next-end.ensures.run,
      λ x h. subst (λ y. KeepsBody c.push_next-end.new.body y)
          (append_assoc x (take i rest) (take n (take (length rest - i) (drop i rest)))
          ∙ ap (λ y. x ++ y)
          (run_joins rest i n)) (c.push_next-end.ensures.keeps (x ++ take i rest) (so.2 x h)),
    )
