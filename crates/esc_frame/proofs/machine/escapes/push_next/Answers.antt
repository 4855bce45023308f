use Rattle.std.proofs.Common.{take}
use Rattle.esc_frame.proofs.ByteRuns.DigitRuns.{digits_in_body}
use Rattle.esc_frame.proofs.machine.escapes.push_next.Goals as goal

pub returns-then-rest-le57-clause-run : goal.returns-then-rest-le57-clause-run
returns-then-rest-le57-clause-run c =
    digits_in_body (take c.push_digits.result c.args.rest.now) c.push_digits.ensures.digits
