use Rattle.esc_filter.specs.Characters.{keep_all}
use Rattle.esc_filter.proofs.laws.passed_reads_back.Goals as goal

pub returns-clause-goes_on : goal.returns-clause-goes_on
returns-clause-goes_on g c = c.written_reads_back.ensures.goes_on keep_all

pub returns-clause-ended : goal.returns-clause-ended
returns-clause-ended g c = c.written_reads_back.ensures.ended keep_all
