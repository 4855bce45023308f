use Rattle.std.proofs.Common.{refl}
use Rattle.esc_frame.proofs.ByteRuns.CsiRuns.{escape_class}
use Rattle.esc_frame.proofs.machine.Machine.leave_string.Goals as goal

pub returns-then-b-eq27-clause-moved : goal.returns-then-b-eq27-clause-moved
returns-then-b-eq27-clause-moved g c = λ limit own.
    rw (c.if-b-eq27.true, escape_class) (c.enter_escape.ensures.holds limit, refl)
