use Rattle.std.proofs.Common.{true}
use Rattle.esc_filter.proofs.Admission.AtMostTextOrColor.{closed_lines_parts, closed_parts, lines_parts, passed_parts}
use Rattle.esc_filter.proofs.laws.writes_color_text.Goals as goal

pub returns-clause-goes_on : goal.returns-clause-goes_on
returns-clause-goes_on g c = λ u l f most s.
    passed_parts (λ v n a x. (c.written_reads_back.ensures.goes_on v n a x).writable)
    (λ v n a x. (c.written_reads_back.ensures.ended v n a x).writable) true u l f most s

pub returns-clause-ended : goal.returns-clause-ended
returns-clause-ended g c = λ u l f most s.
    closed_parts (λ v n a x. (c.written_reads_back.ensures.goes_on v n a x).writable)
    (λ v n a x. (c.written_reads_back.ensures.ended v n a x).writable) true u l f most s

pub returns-clause-by_lines : goal.returns-clause-by_lines
returns-clause-by_lines g c = λ u l f most s.
    lines_parts (λ v n a x. (c.written_reads_back.ensures.goes_on v n a x).writable)
    (λ v n a x. (c.written_reads_back.ensures.ended v n a x).writable) true u l f most s

pub returns-clause-ended_by_lines : goal.returns-clause-ended_by_lines
returns-clause-ended_by_lines g c = λ u l f most s.
    closed_lines_parts (λ v n a x. (c.written_reads_back.ensures.goes_on v n a x).writable)
    (λ v n a x. (c.written_reads_back.ensures.ended v n a x).writable) true u l f most s
