use Rattle.std.proofs.Common.{◌∙◌, sym, eqb-true, arith}
use Rattle.esc_frame.proofs.ByteRuns.NoCharacterAhead.{none_low, control_first}
use Rattle.esc_frame.proofs.ByteRuns.StringRuns.{prefix_is_run, ahead_is_run, no_text_first}
use Rattle.esc_frame.proofs.runs.scans.units_ahead.Goals as goal
use Rattle.esc_frame.proofs.runs.scans.units_ahead.Goals.{then-is_empty-via-then-is_empty, then-is_empty-via-else-is_empty+then-bytes-lt32}

pub returns-then-is_empty-clause-stops : goal.returns-then-is_empty-clause-stops
returns-then-is_empty-clause-stops c = λ none some. elim c.then-is_empty.branch [
  | then-is_empty-via-then-is_empty w ↦ let k =
      eqb-true _ _ (sym c.is_empty.ensures ∙ w.if-is_empty.true) in absurd (omega arith)
  | then-is_empty-via-else-is_empty+then-bytes-lt32 w ↦ control_first c.args.bytes.now (omega arith)
]

pub returns-then-bytes-lt128-clause-run : goal.returns-then-bytes-lt128-clause-run
returns-then-bytes-lt128-clause-run c =
    prefix_is_run c.args.bytes.now c.ascii_run.result c.ascii_run.ensures.run

pub returns-then-bytes-lt128-clause-stops : goal.returns-then-bytes-lt128-clause-stops
returns-then-bytes-lt128-clause-stops c = λ none some. (
  no_text_first c.args.bytes.now c.ascii_run.result c.ascii_run.ensures.run none some,
  none_low c.args.bytes.now (omega arith),
)

pub returns-then-bytes-lt4-clause-run : goal.returns-then-bytes-lt4-clause-run
returns-then-bytes-lt4-clause-run c = ahead_is_run c.args.bytes.now c.ahead_of_few.result.0
    c.ahead_of_few.result.1 c.ahead_of_few.ensures.ahead

pub returns-else-bytes-lt4-clause-run : goal.returns-else-bytes-lt4-clause-run
returns-else-bytes-lt4-clause-run c =
    ahead_is_run c.args.bytes.now c.ahead.result.0 c.ahead.result.1 c.ahead.ensures.ahead
