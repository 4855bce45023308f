use Rattle.std.proofs.Common.{true, false}
use Rattle.esc_filter.proofs.Admission.PassedIsWritable.{is_filtered}
use Rattle.esc_filter.proofs.laws.written_reads_back.Goals as goal

pub returns-clause-goes_on : goal.returns-clause-goes_on
returns-clause-goes_on g c =
    is_filtered c.handed_out.ensures c.reads_back.ensures c.reads_by_itself.ensures false

pub returns-clause-ended : goal.returns-clause-ended
returns-clause-ended g c =
    is_filtered c.handed_out.ensures c.reads_back.ensures c.reads_by_itself.ensures true
