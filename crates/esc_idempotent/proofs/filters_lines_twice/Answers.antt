use Rattle.std.proofs.Common.{ap, ◌∙◌}
use Rattle.esc_filter.specs.Lines.{closed_by_lines_as}
use Rattle.esc_filter.specs.Openings.{resumed_stream}
use Rattle.esc_idempotent.proofs.AllLines.{lines_twice, resumes_nothing}
use Rattle.esc_idempotent.proofs.filters_lines_twice.Goals as goal

pub returns-clause-by_lines : goal.returns-clause-by_lines
returns-clause-by_lines g c = λ u limit again f text closes s kept.
    lines_twice u f text closes c.written_reads_back.ensures.goes_on
    c.written_reads_back.ensures.ended c.lines_written.ensures.ended
    c.lines_written.ensures.closed limit again s kept

pub returns-clause-resumed : goal.returns-clause-resumed
returns-clause-resumed g c = λ k u limit again f text closes s kept.
    let d = resumed_stream k u limit f s in
    ap (closed_by_lines_as u again f)
    (resumes_nothing u f text closes c.written_reads_back.ensures.goes_on
    c.written_reads_back.ensures.ended c.lines_written.ensures.ended
    c.lines_written.ensures.closed limit again d kept k)
    ∙ lines_twice u f text closes c.written_reads_back.ensures.goes_on
    c.written_reads_back.ensures.ended c.lines_written.ensures.ended
    c.lines_written.ensures.closed limit again d kept
