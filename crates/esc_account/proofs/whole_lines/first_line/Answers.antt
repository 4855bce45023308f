use Rattle.esc_account.proofs.Lines.LedgerHearsMore.{first_ended, first_whole}
use Rattle.esc_account.proofs.whole_lines.first_line.Goals as goal

pub returns-in-Some-clause-first : goal.returns-in-Some-clause-first
returns-in-Some-clause-first c = (first_ended c.args.bytes.now c.in-Some.n c.in-Some.ensures.2).0

pub returns-in-Some-clause-others : goal.returns-in-Some-clause-others
returns-in-Some-clause-others c = (first_ended c.args.bytes.now c.in-Some.n c.in-Some.ensures.2).1

pub returns-in-None-clause-first : goal.returns-in-None-clause-first
returns-in-None-clause-first c = (first_whole c.args.bytes.now c.in-None.ensures).0

pub returns-in-None-clause-others : goal.returns-in-None-clause-others
returns-in-None-clause-others c = (first_whole c.args.bytes.now c.in-None.ensures).1
