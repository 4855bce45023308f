use Rattle.esc_filter.proofs.ByLine.LineHasOneFeed.{ended_line, last_line_closed, last_line_open, lines_are}
use Rattle.esc_filter.proofs.laws.lines_written.Goals as goal

pub returns-clause-ended : goal.returns-clause-ended
returns-clause-ended g c =
    ended_line c.meaning_of_the_cut.ensures c.has_cut.ensures c.writes_clear.ensures
    c.reads_back.ensures c.writes_back.ensures c.writes_back-2.ensures
    (λ v l a s. (c.written_reads_back.ensures.goes_on v l a s).writable)
    (λ v l a s. (c.written_reads_back.ensures.ended v l a s).writable)

pub returns-clause-last : goal.returns-clause-last
returns-clause-last g c =
    last_line_open c.meaning_of_the_cut.ensures c.has_cut.ensures c.writes_clear.ensures
    c.reads_back.ensures c.writes_back.ensures c.writes_back-2.ensures
    (λ v l a s. (c.written_reads_back.ensures.goes_on v l a s).writable)
    (λ v l a s. (c.written_reads_back.ensures.ended v l a s).writable)

pub returns-clause-closed : goal.returns-clause-closed
returns-clause-closed g c =
    last_line_closed c.meaning_of_the_cut.ensures c.has_cut.ensures c.writes_clear.ensures
    c.reads_back.ensures c.writes_back.ensures c.writes_back-2.ensures
    (λ v l a s. (c.written_reads_back.ensures.goes_on v l a s).writable)
    (λ v l a s. (c.written_reads_back.ensures.ended v l a s).writable)

pub returns-clause-lines : goal.returns-clause-lines
returns-clause-lines g c =
    lines_are c.meaning_of_the_cut.ensures c.has_cut.ensures c.writes_clear.ensures
    c.reads_back.ensures c.writes_back.ensures c.writes_back-2.ensures
    (λ v l a s. (c.written_reads_back.ensures.goes_on v l a s).writable)
    (λ v l a s. (c.written_reads_back.ensures.ended v l a s).writable)
