use Rattle.std.proofs.Common.{arith, rules, subst}
use Rattle.esc_frame.specs.Machine.TextRuns.{NoUnitAhead}
use Rattle.esc_frame.proofs.ByteRuns.ManyBytes.{tail_is, tail_length}
use Rattle.esc_frame.proofs.ByteRuns.StringRuns.{run_more}
use Rattle.esc_frame.proofs.runs.scans.units_run.Goals as goal

pub loop-end-preserved : goal.loop-end-preserved
loop-end-preserved c =
    let l = tail_length c.args.bytes.now c.loop-end.end in (
      omega (arith, c.units_ahead-n.ensures.few),
      run_more c.args.bytes.now c.loop-end.end c.units_ahead-n.result c.loop-end.invariant.1
          c.units_ahead-n.ensures.run,
    )

pub returns-then-n-eq0-clause-stops : goal.returns-then-n-eq0-clause-stops
returns-then-n-eq0-clause-stops c =
    let l = tail_length c.args.bytes.now c.loop-end.end in
    λ room. subst NoUnitAhead (tail_is c.args.bytes.now c.loop-end.end)
    (c.units_ahead-n.ensures.stops (search rules) (omega arith))
