use Rattle.esc_account.proofs.Lines.AccountOfLines.{run_last, run_line, run_same}
use Rattle.esc_account.proofs.laws.lines_go_on.Goals as goal

pub returns-clause-line : goal.returns-clause-line
returns-clause-line c = run_line

pub returns-clause-same : goal.returns-clause-same
returns-clause-same c = run_same

pub returns-clause-last : goal.returns-clause-last
returns-clause-last c = run_last
