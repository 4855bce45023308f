use Rattle.esc_terminal.proofs.Stepping.{Stepped}
use Rattle.esc_terminal.proofs.keeping.Keeping.take_step.Given as goal

-- so many parts were taken
abbrev pub invariant-loop : goal.invariant-loop
invariant-loop g l = Stepped g.R.Rows.takes l.fn.self l.part l.counter l.self
