use Rattle.std.proofs.Common.{arith}
use Rattle.esc_account.proofs.AtOnce.SeenIsFirst.{open_is, rung_is}
use Rattle.esc_account.proofs.at_once.command_end.Goals as goal

pub returns-then-bytes-run-eq7-clause-found : goal.returns-then-bytes-run-eq7-clause-found
returns-then-bytes-run-eq7-clause-found c = λ some.
    rung_is c.data_run-run.result c.args.bytes.now (omega (arith, c.data_run-run.ensures.few))
    c.data_run-run.ensures.run c.if-bytes-run-eq7.true

pub returns-then-bytes-run-eq27-clause-found : goal.returns-then-bytes-run-eq27-clause-found
returns-then-bytes-run-eq27-clause-found c = λ some.
    open_is c.data_run-run.result c.args.bytes.now (omega (arith, c.data_run-run.ensures.few))
    c.data_run-run.ensures.run c.if-bytes-run-eq27.true
