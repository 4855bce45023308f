use Rattle.std.proofs.Common.{sym, ◌∙◌, arith}
use Rattle.esc_segments.proofs.Texts.{lead_first, run_unit}
use Rattle.esc_segments.proofs.text.unit_ahead.Goals as goal

pub sequence_unit-requires : goal.sequence_unit-requires
sequence_unit-requires c =
    let lead = lead_first c.args.text.now c.text_run-run.result c.text_run-run.ensures.run
    (omega arith) c.requires c.if-text-eq7.false
    (sym c.is_breaker.ensures ∙ c.if-is_breaker.false) in
    record { some = c.requires; low = lead.0; high = lead.1 }

pub returns-then-run-gt0 : goal.returns-then-run-gt0
returns-then-run-gt0 c = run_unit c.args.text.now c.text_run-run.result c.text_run-run.ensures.run
    c.if-run-gt0.true c.text_run-run.ensures.few
