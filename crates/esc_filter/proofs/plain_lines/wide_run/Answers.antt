use Rattle.std.proofs.Common.{◌-◌, arith, drop, length, subst, take}
use Rattle.esc_frame.proofs.ByteRuns.CsiRuns.{run_joins}
use Rattle.esc_frame.proofs.ByteRuns.ManyBytes.{tail_length}
use Rattle.esc_filter.specs.Lines.{AreWide}
use Rattle.esc_filter.proofs.ByLine.WideBytesAreKept.{wide_more}
use Rattle.esc_filter.proofs.plain_lines.wide_run.Goals as goal

pub loop-end-preserved : goal.loop-end-preserved
loop-end-preserved c =
    let bs = c.args.bytes.now in
    let at = c.loop-end.end in
    let l = tail_length bs at in
    let n = c.wide_ahead-n.result in (
      omega (arith, c.wide_ahead-n.ensures.few),
      subst AreWide (run_joins bs at n)
          (wide_more (take at bs) (take n (take (length bs - at) (drop at bs)))
          c.loop-end.invariant.1 c.wide_ahead-n.ensures.character),
    )
