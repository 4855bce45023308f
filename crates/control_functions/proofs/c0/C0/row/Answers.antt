use Rattle.control_functions.proofs.Controls.{answers, sheet}
use Rattle.control_functions.proofs.Tables.{row_answered, row_key, row_of, row_screen}
use Rattle.control_functions.proofs.c0.C0.row.Goals as goal

pub returns-clause-function : goal.returns-clause-function
returns-clause-function c = rw c.place.ensures.place (row_of sheet c.args.self _)

pub returns-clause-key : goal.returns-clause-key
returns-clause-key c = rw c.place.ensures.place (row_key sheet c.args.self _)

pub returns-clause-screen : goal.returns-clause-screen
returns-clause-screen c = rw c.place.ensures.place (row_screen sheet c.args.self _)

pub returns-clause-answered : goal.returns-clause-answered
returns-clause-answered c = rw c.place.ensures.place (row_answered sheet answers c.args.self _)
