use Rattle.esc_idempotent.proofs.Twice.{closed_twice, open_twice}
use Rattle.esc_idempotent.proofs.filters_twice.Goals as goal

pub returns-clause-goes_on : goal.returns-clause-goes_on
returns-clause-goes_on g c = λ u limit again f text s kept.
    let r = c.written_reads_back.ensures.goes_on u limit f s in
    open_twice u f text limit again s r.writable r.reads_back kept

pub returns-clause-ended : goal.returns-clause-ended
returns-clause-ended g c = λ u limit again f text closes s kept.
    let r = c.written_reads_back.ensures.ended u limit f s in
    closed_twice u f text closes limit again s
    (c.written_reads_back.ensures.goes_on u limit f s).writable r.writable r.reads_back kept
